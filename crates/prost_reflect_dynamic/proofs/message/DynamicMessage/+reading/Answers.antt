use Rattle.std.specs.Prelude.{◌≡◌, ◌≤◌}
use Rattle.prost_reflect_dynamic.proofs.Common.{subst, true, false, Some, nat_eq, refl, ap, sym, ◌∙◌, length, true≢false, unwrap_or, arith, eq-eqb, ne_eqb, key_of, rules, err_from_is_err_and, IfOk-weaker, IfErr-weaker, MessageValue, empty, value_at, entries_of, schema_at, value_of, content_of, message_type_of, overwritten_at, value_set, KeyFront, bytes_below, MapValue, schema_of, type_of, put, pairs_in, with_element, StoredInside, message_stored, NestedField, NestedList, NestedMap, typed_as}
use Rattle.prost_reflect_dynamic.proofs.Views.{value_of_message}
use Rattle.prost_reflect_laws.proofs.Progressing.{progress_start, progress_step, progress_no_key, progress_no_key_in, progress_no_record, progress_no_record_in, progress_other_end}
use Rattle.prost_reflect_dynamic.proofs.NestedFaults.{nested_refused, group_read, message_read, group_refused, message_refused, body_refused}
use Rattle.prost_reflect_dynamic.proofs.NestedReads.{lent_message, held_message, first_message, read_in, refused_in, read_first, refused_first}
use Rattle.prost_reflect_dynamic.proofs.ElementReads.{list_or_none, empty_element, element_step, element_refused}
use Rattle.prost_reflect_dynamic.proofs.NestedMaps.{nested_start, nested_no_key_there, nested_key_there, nested_value_there, nested_other_there, nested_no_key_value, nested_no_value, nested_no_other, nested_mapped, nested_key_found, nested_entry_set, nested_entry_fault, nested_body_fault, nested_no_level}
use Rattle.prost_reflect_dynamic.proofs.TypedSteps.{still_typed}
use Rattle.prost_reflect_dynamic.proofs.TypedValues.{held_stays, held_read, first_read, element_read, entry_read}
use Rattle.prost_reflect_dynamic.proofs.message.DynamicMessage.+reading.Goals as goal

pub merge_records-loop-rest-init : goal.merge_records-loop-rest-init
merge_records-loop-rest-init t c = record { progress = progress_start _ _ _ c.requires.sound; message_type = refl; typed = record { typed = λ h. h } }

pub merge_records-returns-in_err-number-clause-fault : goal.merge_records-returns-in_err-number-clause-fault
merge_records-returns-in_err-number-clause-fault t c = let p = err_from_is_err_and c.from_residual.result c.from_residual.ensures.1 in
    let some : nat_eq (length c.loop-rest.rest.now) 0 ≡ false = sym c.is_empty.ensures ∙ c.loop-rest-test.true in
    rw (p.1, p.2) (λ ne. progress_no_key _ _ _ _ _ _ c.loop-rest.invariant.progress (λ none. true≢false (sym (ap (λ bytes. nat_eq (length bytes) 0) none) ∙ some)) c.in_err-number.ensures.fault)

pub merge_records-returns-in_err-rest-clause-fault : goal.merge_records-returns-in_err-rest-clause-fault
merge_records-returns-in_err-rest-clause-fault t c = let p = err_from_is_err_and c.from_residual-in_err-rest.result c.from_residual-in_err-rest.ensures.1 in
    rw (p.1, p.2) (λ ne. progress_no_record _ _ _ _ _ _ _ _ _ c.loop-rest.invariant.progress c.in_ok-number.ensures.ok (c.in_err-rest.ensures.fault ne))

pub merge_records-loop-rest-preserved : goal.merge_records-loop-rest-preserved
merge_records-loop-rest-preserved t c = record {
  progress = progress_step _ _ _ _ _ _ _ _ _ _ c.loop-rest.invariant.progress c.in_ok-number.ensures.ok c.in_ok-rest.ensures.ok;
  message_type = c.merge_record.ensures.message_type ∙ c.loop-rest.invariant.message_type;
  typed = still_typed _ _ _ c.loop-rest.invariant.typed c.in_ok-rest.ensures.typed;
}

pub merge_to_end-loop-key-init : goal.merge_to_end-loop-key-init
merge_to_end-loop-key-init t c = record { progress = progress_start _ _ _ c.requires.sound; message_type = refl; typed = record { typed = λ h. h } }

pub merge_to_end-loop-key-preserved : goal.merge_to_end-loop-key-preserved
merge_to_end-loop-key-preserved t c = record {
  progress = progress_step _ _ _ _ _ _ _ _ _ _ c.loop-key.invariant.progress c.in_ok-key.ensures.ok c.in_ok-rest.ensures.ok;
  message_type = c.merge_record.ensures.message_type ∙ c.loop-key.invariant.message_type;
  typed = still_typed _ _ _ c.loop-key.invariant.typed c.in_ok-rest.ensures.typed;
}

pub merge_to_end-returns-in_err-key-clause-fault : goal.merge_to_end-returns-in_err-key-clause-fault
merge_to_end-returns-in_err-key-clause-fault t c = let p = err_from_is_err_and c.from_residual.result c.from_residual.ensures.1 in
    rw (p.1, p.2) (λ ne. progress_no_key_in _ _ _ _ _ _ _ c.loop-key.invariant.progress (λ _ none. cc) c.in_err-key.ensures.fault)

pub merge_to_end-returns-in-EndGroup-2-clause-fault : goal.merge_to_end-returns-in-EndGroup-2-clause-fault
merge_to_end-returns-in-EndGroup-2-clause-fault t c = λ ne.
    progress_other_end _ _ _ _ _ _ _ _ c.loop-key.invariant.progress (subst (λ w. KeyFront c.in_ok-key.key.value w c.loop-key.rest.now c.in_ok-key.after.now) c.in-EndGroup-2.is c.in_ok-key.ensures.ok)
    (λ same. c.if-get.false (c.get.ensures.value ∙ sym same ∙ sym c.get-in-EndGroup-1.ensures.value))

pub merge_to_end-returns-in_err-rest-clause-fault : goal.merge_to_end-returns-in_err-rest-clause-fault
merge_to_end-returns-in_err-rest-clause-fault t c = let p = err_from_is_err_and c.from_residual-in_err-rest.result c.from_residual-in_err-rest.ensures.1 in
    rw (p.1, p.2) (λ ne. progress_no_record_in _ _ _ _ _ _ _ _ _ _ c.loop-key.invariant.progress c.in_ok-key.ensures.ok (λ is. absurd (c.in_default.not-EndGroup is)) (c.in_err-rest.ensures.fault ne))

pub merge_to_end-returns-in_err-rest-clause-message_type : goal.merge_to_end-returns-in_err-rest-clause-message_type
merge_to_end-returns-in_err-rest-clause-message_type t c = c.merge_record.ensures.message_type ∙ c.loop-key.invariant.message_type

pub merge_message-merge_into-requires : goal.merge_message-merge_into-requires
merge_message-merge_into-requires t c =
    let lent = lent_message c.args.self.now c.args.number.value c.args.kind.place c.args.kind.is_group c.in-Some.value.now c.requires.sound c.requires.field
    (ap (λ o. unwrap_or o (MessageValue (empty (schema_at (message_type_of c.args.self.now)) c.args.kind.place))) (rw c.get.ensures.value at c.in-Some.ensures.value)) in
    (search rules, held_message c.args.self.now c.args.number.value c.args.kind.place c.in-Some.value.now lent)

pub merge_message-returns-in-Some-clause-fault : goal.merge_message-returns-in-Some-clause-fault
merge_message-returns-in-Some-clause-fault t c =
    let lent = lent_message c.args.self.now c.args.number.value c.args.kind.place c.args.kind.is_group c.in-Some.value.now c.requires.sound c.requires.field
    (ap (λ o. unwrap_or o (MessageValue (empty (schema_at (message_type_of c.args.self.now)) c.args.kind.place))) (rw c.get.ensures.value at c.in-Some.ensures.value)) in
    IfErr-weaker c.merge_into.result _ _
    (λ e f ne. refused_in c.args.self.now c.args.number.value c.args.kind.place c.args.levels c.args.kind.is_group c.args.wire_type c.in-Some.value.now c.requires.sound c.requires.field lent e c.args.bytes.now (f ne))
    c.merge_into.ensures.fault

pub merge_message-returns-in-Some-clause-ok : goal.merge_message-returns-in-Some-clause-ok
merge_message-returns-in-Some-clause-ok t c =
    let lent = lent_message c.args.self.now c.args.number.value c.args.kind.place c.args.kind.is_group c.in-Some.value.now c.requires.sound c.requires.field
    (ap (λ o. unwrap_or o (MessageValue (empty (schema_at (message_type_of c.args.self.now)) c.args.kind.place))) (rw c.get.ensures.value at c.in-Some.ensures.value)) in
    IfOk-weaker c.merge_into.result _ _
    (λ rest r. read_in c.args.self.now c.args.number.value c.args.kind.place c.args.levels c.args.kind.is_group c.args.wire_type c.in-Some.value.now c.requires.sound c.requires.field lent
    (overwritten_at c.args.self.now c.get.result c.merge_into.new.value) (value_of c.merge_into.new.value) c.args.bytes.now rest.now r
    (c.in-Some.ensures.content c.merge_into.new.value ∙ ap (λ n. value_set n (value_of c.merge_into.new.value) (content_of c.args.self.now)) c.get.ensures.value))
    c.merge_into.ensures.ok

pub merge_first-merge_nested-requires : goal.merge_first-merge_nested-requires
merge_first-merge_nested-requires t c =
    let at = first_message c.args.self.now c.in_ok-first.first c.args.number.value c.args.kind.place c.args.kind.is_group c.requires.sound c.requires.field
    (c.in_ok-first.ensures.content ∙ ap (λ d. empty (schema_at d) c.args.kind.place) c.message_type.ensures) c.requires.none in
    (search rules, at.sound)

pub merge_first-returns-in_err-rest-clause-fault : goal.merge_first-returns-in_err-rest-clause-fault
merge_first-returns-in_err-rest-clause-fault t c =
    let at = first_message c.args.self.now c.in_ok-first.first c.args.number.value c.args.kind.place c.args.kind.is_group c.requires.sound c.requires.field
    (c.in_ok-first.ensures.content ∙ ap (λ d. empty (schema_at d) c.args.kind.place) c.message_type.ensures) c.requires.none in
    let p = err_from_is_err_and c.from_residual-in_err-rest.result c.from_residual-in_err-rest.ensures.1 in
    rw (p.1, p.2) (λ ne. refused_first c.args.self.now c.in_ok-first.first c.args.number.value c.args.kind.place c.args.levels c.args.kind.is_group c.args.wire_type c.requires.sound c.requires.field at _ c.args.bytes.now (c.in_err-rest.ensures.fault ne))

pub merge_first-returns-clause-ok : goal.merge_first-returns-clause-ok
merge_first-returns-clause-ok t c =
    let at = first_message c.args.self.now c.in_ok-first.first c.args.number.value c.args.kind.place c.args.kind.is_group c.requires.sound c.requires.field
    (c.in_ok-first.ensures.content ∙ ap (λ d. empty (schema_at d) c.args.kind.place) c.message_type.ensures) c.requires.none in
    read_first c.args.self.now c.in_ok-first.first c.args.number.value c.args.kind.place c.args.levels c.args.kind.is_group c.args.wire_type c.requires.sound c.requires.field at c.merge_nested.new.self c.set_member.new.self
    c.args.bytes.now c.in_ok-rest.rest.now c.in_ok-rest.ensures.ok (rw c.get.ensures.value at c.in_ok-set_member.ensures.content)

pub merge_into-returns-clause-ok : goal.merge_into-returns-clause-ok
merge_into-returns-clause-ok t c =
    IfOk-weaker c.merge_nested.result _ _ (λ rest r. record { before = c.in-Some.message.now; after = c.merge_nested.new.self; was = sym c.in-Some.ensures.value; is = value_of_message c.merge_nested.new.self; read = r }) c.merge_nested.ensures.ok

pub merge_into-returns-clause-fault : goal.merge_into-returns-clause-fault
merge_into-returns-clause-fault t c = IfErr-weaker c.merge_nested.result _ _ (λ e f ne. record { before = c.in-Some.message.now; was = sym c.in-Some.ensures.value; stands = f ne }) c.merge_nested.ensures.fault

pub merge_nested-returns-in_err-check_nested-clause-fault : goal.merge_nested-returns-in_err-check_nested-clause-fault
merge_nested-returns-in_err-check_nested-clause-fault t c = let p = err_from_is_err_and c.from_residual.result c.from_residual.ensures.1 in
    rw (p.1, p.2) (λ ne. nested_refused (schema_of (content_of c.args.self.now)) c.args.levels c.args.number.value (type_of (content_of c.args.self.now)) c.args.is_group c.args.wire_type _ c.args.bytes.now c.in_err-check_nested.ensures.fault)

pub merge_nested-returns-then-is_group-clause-ok : goal.merge_nested-returns-then-is_group-clause-ok
merge_nested-returns-then-is_group-clause-ok t c =
    IfOk-weaker c.merge_to_end.result _ _ (λ rest done. group_read (content_of c.args.self.now) c.args.levels c.args.number.value c.args.is_group c.args.wire_type c.in_ok-check_nested.ensures.wire c.in_ok-check_nested.ensures.levels _ _ _ c.if-is_group.true done) c.merge_to_end.ensures.ok

pub merge_nested-returns-then-is_group-clause-fault : goal.merge_nested-returns-then-is_group-clause-fault
merge_nested-returns-then-is_group-clause-fault t c =
    IfErr-weaker c.merge_to_end.result _ _ (λ e f ne. group_refused (content_of c.args.self.now) c.args.levels c.args.number.value c.args.is_group c.args.wire_type c.in_ok-check_nested.ensures.wire c.in_ok-check_nested.ensures.levels _ _ c.if-is_group.true (f ne)) c.merge_to_end.ensures.fault

pub merge_nested-returns-in_err-body-clause-fault : goal.merge_nested-returns-in_err-body-clause-fault
merge_nested-returns-in_err-body-clause-fault t c = let p = err_from_is_err_and c.from_residual-in_err-body.result c.from_residual-in_err-body.ensures.1 in
    rw (p.1, p.2) (λ ne. body_refused (content_of c.args.self.now) c.args.levels c.args.number.value c.args.is_group c.args.wire_type c.in_ok-check_nested.ensures.wire c.in_ok-check_nested.ensures.levels _ c.args.bytes.now c.if-is_group.false c.in_err-body.ensures.fault)

pub merge_nested-returns-in_err-merge_records-clause-fault : goal.merge_nested-returns-in_err-merge_records-clause-fault
merge_nested-returns-in_err-merge_records-clause-fault t c = let p = err_from_is_err_and c.from_residual-in_err-merge_records.result c.from_residual-in_err-merge_records.ensures.1 in
    rw (p.1, p.2) (λ ne. message_refused (content_of c.args.self.now) c.args.levels c.args.number.value c.args.is_group c.args.wire_type c.in_ok-check_nested.ensures.wire c.in_ok-check_nested.ensures.levels _ _ _ _ c.if-is_group.false c.in_ok-body.ensures.ok (c.in_err-merge_records.ensures.fault ne))

pub merge_nested-returns-clause-ok : goal.merge_nested-returns-clause-ok
merge_nested-returns-clause-ok t c = message_read (content_of c.args.self.now) c.args.levels c.args.number.value c.args.is_group c.args.wire_type c.in_ok-check_nested.ensures.wire c.in_ok-check_nested.ensures.levels _ _ _ _ c.if-is_group.false c.in_ok-body.ensures.ok c.in_ok-merge_records.ensures.ok

pub merge_element-merge_nested-requires : goal.merge_element-merge_nested-requires
merge_element-merge_nested-requires t c =
    let fresh = empty_element c.args.self.now c.in_ok-element.element c.args.kind.place
    (c.in_ok-element.ensures.content ∙ ap (λ d. empty (schema_at d) c.args.kind.place) c.message_type.ensures) in
    (search rules, fresh.sound)

pub merge_element-returns-in_err-rest-clause-fault : goal.merge_element-returns-in_err-rest-clause-fault
merge_element-returns-in_err-rest-clause-fault t c =
    let fresh = empty_element c.args.self.now c.in_ok-element.element c.args.kind.place
    (c.in_ok-element.ensures.content ∙ ap (λ d. empty (schema_at d) c.args.kind.place) c.message_type.ensures) in
    let p = err_from_is_err_and c.from_residual-in_err-rest.result c.from_residual-in_err-rest.ensures.1 in
    rw (p.1, p.2) (λ ne. element_refused c.args.self.now c.in_ok-element.element c.args.number.value c.args.kind.place c.args.levels c.args.kind.is_group c.args.wire_type c.requires.field fresh _ c.args.bytes.now (c.in_err-rest.ensures.fault ne))

pub merge_element-push_value-requires-clause-list : goal.merge_element-push_value-requires-clause-list
merge_element-push_value-requires-clause-list t c = rw c.get.ensures.value (list_or_none c.args.self.now c.args.number.value c.args.kind.place c.args.kind.is_group c.requires.field c.requires.sound)

pub merge_element-returns-clause-ok : goal.merge_element-returns-clause-ok
merge_element-returns-clause-ok t c =
    let fresh = empty_element c.args.self.now c.in_ok-element.element c.args.kind.place
    (c.in_ok-element.ensures.content ∙ ap (λ d. empty (schema_at d) c.args.kind.place) c.message_type.ensures) in
    element_step c.args.self.now c.in_ok-element.element c.merge_nested.new.self c.push_value.new.self c.args.number.value c.args.kind.place c.args.levels c.args.kind.is_group c.args.wire_type c.requires.sound c.requires.field fresh
    ((rw c.get.ensures.value at c.in_ok-push_value.ensures.content)
    ∙ ap (λ v. value_set c.args.number.value (with_element (value_at c.args.number.value (entries_of (content_of c.args.self.now))) v) (content_of c.args.self.now)) (value_of_message c.merge_nested.new.self))
    c.args.bytes.now c.in_ok-rest.rest.now c.in_ok-rest.ensures.ok

pub merge_entry_body-loop-rest-init : goal.merge_entry_body-loop-rest-init
merge_entry_body-loop-rest-init t c = record { read = nested_start _ _ _ _ _ c.requires.empty c.default_of-key.ensures; message_type = refl; typed = record { typed = λ h. h } }

pub merge_entry_body-returns-in_err-number-clause-fault : goal.merge_entry_body-returns-in_err-number-clause-fault
merge_entry_body-returns-in_err-number-clause-fault t c = let p = err_from_is_err_and c.from_residual.result c.from_residual.ensures.1 in
    let some : nat_eq (length c.loop-rest.rest.now) 0 ≡ false = sym c.is_empty.ensures ∙ c.loop-rest-test.true in
    rw (p.1, p.2) (λ ne. nested_no_key_there _ c.requires.some _ _ _ _ _ _ c.loop-rest.invariant.read _ (λ none. true≢false (sym (ap (λ bytes. nat_eq (length bytes) 0) none) ∙ some)) c.in_err-number.ensures.fault)

pub merge_entry_body-returns-in_err-read-clause-fault : goal.merge_entry_body-returns-in_err-read-clause-fault
merge_entry_body-returns-in_err-read-clause-fault t c = let p = err_from_is_err_and c.from_residual-in_err-read.result c.from_residual-in_err-read.ensures.1 in
    rw (p.1, p.2) (λ ne. nested_no_key_value _ c.requires.some _ _ _ _ _ _ c.loop-rest.invariant.read _ _ _ c.in_ok-number.ensures.ok _ (eq-eqb _ 1 (sym c.get.ensures.value ∙ c.if-get-eq1.true)) (c.in_err-read.ensures.fault ne))

pub merge_entry_body-loop-rest-preserved-then-get-eq1 : goal.merge_entry_body-loop-rest-preserved-then-get-eq1
merge_entry_body-loop-rest-preserved-then-get-eq1 t c = record {
  read = nested_key_there _ c.requires.some _ _ _ _ _ _ c.loop-rest.invariant.read _ _ _ c.in_ok-number.ensures.ok _ _ (eq-eqb _ 1 (sym c.get.ensures.value ∙ c.if-get-eq1.true)) c.in_ok-read.ensures.ok;
  message_type = c.loop-rest.invariant.message_type;
  typed = c.loop-rest.invariant.typed;
}

pub merge_entry_body-returns-in_err-rest-clause-fault : goal.merge_entry_body-returns-in_err-rest-clause-fault
merge_entry_body-returns-in_err-rest-clause-fault t c = let p = err_from_is_err_and c.from_residual-in_err-rest.result c.from_residual-in_err-rest.ensures.1 in
    rw (p.1, p.2) (λ ne. nested_no_value _ c.requires.some _ _ _ _ _ _ c.loop-rest.invariant.read _ _ _ c.in_ok-number.ensures.ok _ (eq-eqb _ 2 (sym c.get-else-get-eq1.ensures.value ∙ c.if-get-eq2.true)) (c.in_err-rest.ensures.fault ne))

pub merge_entry_body-loop-rest-preserved-then-get-eq2 : goal.merge_entry_body-loop-rest-preserved-then-get-eq2
merge_entry_body-loop-rest-preserved-then-get-eq2 t c = record {
  read = nested_value_there _ c.requires.some _ _ _ _ _ _ c.loop-rest.invariant.read _ _ _ c.in_ok-number.ensures.ok _ _ (eq-eqb _ 2 (sym c.get-else-get-eq1.ensures.value ∙ c.if-get-eq2.true)) c.in_ok-rest.ensures.ok;
  message_type = c.merge_nested.ensures.message_type ∙ c.loop-rest.invariant.message_type;
  typed = still_typed _ _ _ c.loop-rest.invariant.typed c.in_ok-rest.ensures.typed;
}

pub merge_entry_body-returns-in_err-rest-2-clause-fault : goal.merge_entry_body-returns-in_err-rest-2-clause-fault
merge_entry_body-returns-in_err-rest-2-clause-fault t c = let p = err_from_is_err_and c.from_residual-in_err-rest-2.result c.from_residual-in_err-rest-2.ensures.1 in
    rw (p.1, p.2) (λ ne. nested_no_other _ c.requires.some _ _ _ _ _ _ c.loop-rest.invariant.read _ _ _ c.in_ok-number.ensures.ok _ (ne_eqb _ 1 (λ is. c.if-get-eq1.false (c.get.ensures.value ∙ is)))
    (ne_eqb _ 2 (λ is. c.if-get-eq2.false (c.get-else-get-eq1.ensures.value ∙ is))) c.in_err-rest-2.ensures.fault)

pub merge_entry_body-loop-rest-preserved : goal.merge_entry_body-loop-rest-preserved
merge_entry_body-loop-rest-preserved t c = record {
  read = nested_other_there _ c.requires.some _ _ _ _ _ _ c.loop-rest.invariant.read _ _ _ c.in_ok-number.ensures.ok _ (ne_eqb _ 1 (λ is. c.if-get-eq1.false (c.get.ensures.value ∙ is)))
      (ne_eqb _ 2 (λ is. c.if-get-eq2.false (c.get-else-get-eq1.ensures.value ∙ is))) c.in_ok-rest-2.ensures.ok;
  message_type = c.loop-rest.invariant.message_type;
  typed = c.loop-rest.invariant.typed;
}

pub merge_entry-returns-in_err-body-clause-fault : goal.merge_entry-returns-in_err-body-clause-fault
merge_entry-returns-in_err-body-clause-fault t c = let p = err_from_is_err_and c.from_residual.result c.from_residual.ensures.1 in
    rw (p.1, p.2) (λ ne. nested_body_fault c.args.self.now _ _ _ c.requires.field _ _ _ _ c.in_err-body.ensures.fault)

pub merge_entry-returns-then-levels-eq0-clause-fault : goal.merge_entry-returns-then-levels-eq0-clause-fault
merge_entry-returns-then-levels-eq0-clause-fault t c = λ ne. nested_no_level c.args.self.now _ _ _ c.requires.field c.args.levels c.args.wire_type c.args.bytes.now c.if-levels-eq0.true c.in_ok-body.ensures.ok.0

pub merge_entry-returns-in_err-read-clause-fault : goal.merge_entry-returns-in_err-read-clause-fault
merge_entry-returns-in_err-read-clause-fault t c =
    let fresh = empty_element c.args.self.now c.in_ok-value.value c.args.place (c.in_ok-value.ensures.content ∙ ap (λ d. empty (schema_at d) c.args.place) c.message_type.ensures) in
    let some : 1 ≤ c.args.levels = omega (arith, c.if-levels-eq0.false) in
    let p = err_from_is_err_and c.from_residual-in_err-read.result c.from_residual-in_err-read.ensures.1 in
    rw (p.1, p.2) (λ ne. nested_entry_fault c.args.self.now _ _ _ c.requires.field c.in_ok-value.value fresh c.args.levels some c.args.wire_type _ c.in_ok-body.body.now c.args.bytes.now c.in_ok-body.rest.now c.in_ok-body.ensures.ok.0 c.in_ok-body.ensures.ok.1 (c.in_err-read.ensures.fault ne))

pub merge_entry-map_key-requires : goal.merge_entry-map_key-requires
merge_entry-map_key-requires t c =
    let fresh = empty_element c.args.self.now c.in_ok-value.value c.args.place (c.in_ok-value.ensures.content ∙ ap (λ d. empty (schema_at d) c.args.place) c.message_type.ensures) in
    let some : 1 ≤ c.args.levels = omega (arith, c.if-levels-eq0.false) in
    nested_key_found c.args.self.now _ _ _ c.requires.field c.in_ok-value.value fresh c.args.levels some c.in_ok-read.read (content_of c.merge_entry_body.new.self) _ _ _ c.in_ok-read.ensures.ok (bytes_below _ c.type_inv.bytes) c.in_ok-body.ensures.ok.1

pub merge_entry-put_entry-requires-clause-mapped : goal.merge_entry-put_entry-requires-clause-mapped
merge_entry-put_entry-requires-clause-mapped t c = rw c.get.ensures.value (nested_mapped c.args.self.now _ _ _ c.requires.field c.requires.sound)

pub merge_entry-returns-clause-ok : goal.merge_entry-returns-clause-ok
merge_entry-returns-clause-ok t c =
    let fresh = empty_element c.args.self.now c.in_ok-value.value c.args.place (c.in_ok-value.ensures.content ∙ ap (λ d. empty (schema_at d) c.args.place) c.message_type.ensures) in
    let some : 1 ≤ c.args.levels = omega (arith, c.if-levels-eq0.false) in
    nested_entry_set c.args.self.now _ _ _ c.requires.field c.in_ok-value.value fresh c.args.levels some c.put_entry.new.self c.args.wire_type c.in_ok-read.read c.map_key.result (content_of c.merge_entry_body.new.self) _ _ _ c.requires.sound (bytes_below _ c.type_inv.bytes)
    c.in_ok-read.ensures.ok c.map_key.ensures c.in_ok-body.ensures.ok.0 c.in_ok-body.ensures.ok.1
    ((rw c.get.ensures.value at c.in_ok-put_entry.ensures.content)
    ∙ ap (λ v. value_set c.args.number.value (MapValue (put (key_of c.map_key.result) v (pairs_in (value_at c.args.number.value (entries_of (content_of c.args.self.now)))))) (content_of c.args.self.now)) (value_of_message c.merge_entry_body.new.self))

-- THE TYPES OF WHAT IS READ

pub merge_message-returns-in-Some-clause-typed : goal.merge_message-returns-in-Some-clause-typed
merge_message-returns-in-Some-clause-typed t c =
    IfOk-weaker c.merge_into.result _ _
    (λ rest stays. held_read c.args.self.now c.get.result c.args.kind.place c.args.kind.is_group c.in-Some.value.now c.merge_into.new.value c.in-Some.ensures.ascending
    (subst (λ n. NestedField (message_type_of c.args.self.now) n c.args.kind.place c.args.kind.is_group) (sym c.get.ensures.value) c.requires.field) (sym c.in-Some.ensures.stored) stays)
    c.merge_into.ensures.typed

pub merge_first-returns-clause-typed : goal.merge_first-returns-clause-typed
merge_first-returns-clause-typed t c = c.in_ok-set_member.ensures.typed
    (first_read (message_type_of c.args.self.now) c.get.result c.args.kind.place c.args.kind.is_group c.in_ok-first.first c.merge_nested.new.self
    (subst (λ n. NestedField (message_type_of c.args.self.now) n c.args.kind.place c.args.kind.is_group) (sym c.get.ensures.value) c.requires.field)
    (subst (λ d. typed_as d (Some c.args.kind.place) (StoredInside (message_stored c.in_ok-first.first)) ≡ true) c.message_type.ensures c.in_ok-first.ensures.typed) c.merge_nested.ensures.message_type c.in_ok-rest.ensures.typed)

pub merge_into-returns-clause-typed : goal.merge_into-returns-clause-typed
merge_into-returns-clause-typed t c =
    IfOk-weaker c.merge_nested.result _ _ (λ rest stays. held_stays c.args.value.now c.in-Some.message.now c.merge_nested.new.self (sym c.in-Some.ensures.value) c.merge_nested.ensures.message_type stays) c.merge_nested.ensures.typed

pub merge_element-returns-clause-typed : goal.merge_element-returns-clause-typed
merge_element-returns-clause-typed t c = c.in_ok-push_value.ensures.typed
    (element_read (message_type_of c.args.self.now) c.get.result c.args.kind.place c.args.kind.is_group c.in_ok-element.element c.merge_nested.new.self
    (subst (λ n. NestedList (message_type_of c.args.self.now) n c.args.kind.place c.args.kind.is_group) (sym c.get.ensures.value) c.requires.field)
    (subst (λ d. typed_as d (Some c.args.kind.place) (StoredInside (message_stored c.in_ok-element.element)) ≡ true) c.message_type.ensures c.in_ok-element.ensures.typed) c.merge_nested.ensures.message_type c.in_ok-rest.ensures.typed)

pub merge_entry-returns-clause-typed : goal.merge_entry-returns-clause-typed
merge_entry-returns-clause-typed t c = c.in_ok-put_entry.ensures.typed
    (entry_read (message_type_of c.args.self.now) c.get.result c.args.key c.args.place c.in_ok-value.value c.merge_entry_body.new.self
    (subst (λ n. NestedMap (message_type_of c.args.self.now) n c.args.key c.args.place) (sym c.get.ensures.value) c.requires.field)
    (subst (λ d. typed_as d (Some c.args.place) (StoredInside (message_stored c.in_ok-value.value)) ≡ true) c.message_type.ensures c.in_ok-value.ensures.typed) c.merge_entry_body.ensures.message_type c.in_ok-read.ensures.typed)
