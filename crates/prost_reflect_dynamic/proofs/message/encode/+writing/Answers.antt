use Rattle.std.specs.Prelude.{◌≡◌, ◌∷◌, ◌⊎◌, ◌-◌}
use Rattle.prost_reflect_dynamic.proofs.Common.{rules, ℕ, Some, ap, sym, subst, ◌∙◌, inl, inr, arith, adds_in_turn, adds_same, field_row, pool_rows, UnknownFieldSet, FieldSlot, Value, the_lemmas, TakesScalar, kept_scalar_bytes, value_of, value_in, names_message, known_of, AreEntries, MapKey, ElementWritable}
use Rattle.prost_reflect_fields.specs.declared.slot.FieldSlot.TheVariants as entries
use Rattle.prost_reflect_dynamic.specs.declared.value.Value.TheBlock.{the_depth, member-Value}
use Rattle.prost_reflect_dynamic.proofs.Encodings.{whole_written, entry_writable, value_adds, unknown_adds}
use Rattle.prost_reflect_dynamic.proofs.NestedWrites.{nested_written, no_message_value}
use Rattle.prost_reflect_dynamic.proofs.WrittenValues.{row_written}
use Rattle.prost_reflect_dynamic.proofs.ScalarRefs.{takes_scalar}
use Rattle.prost_reflect_rows.proofs.FieldTargets.{no_message_kind}
use Rattle.prost_reflect_dynamic.proofs.WrittenLists.{valid_list_value, row_list_written, takes_same, list_value_bytes, holds_at}
use Rattle.prost_reflect_rows.proofs.RepeatedRows.{listed_form, map_of_rows}
use Rattle.prost_reflect_dynamic.proofs.NestedMapWrites.{nested_rows, nested_rows_written, nested_value_bytes, most_in, entry_at}
use Rattle.prost_reflect_dynamic.proofs.WrittenMaps.{cut_pairs}
use Rattle.prost_reflect_dynamic.proofs.MapRows.{valid_map_value}
use Rattle.prost_reflect_dynamic.proofs.ElementWrites.{row_messages_written, element_encodable, no_element}
use Rattle.prost_reflect_dynamic.proofs.message.encode.+writing.Goals as goal

one_value : (e : FieldSlot Value) (v : Value) → (e ≡ entries.Value v) ⊎ ((u : UnknownFieldSet) × (e ≡ entries.Both v u)) → value_in e ≡ Some v
one_value e v (inl is) = ap value_in is
one_value e v (inr both) = ap value_in both.1

pub write_body-write_unknown-requires : goal.write_body-write_unknown-requires
write_body-write_unknown-requires g t c =
    let e : ℕ × FieldSlot Value = c.in-Some.entry.now in
    let done = c.loop-entry.invariant.0 in
    let cut = cut_pairs _ _ _ _ e c.loop-entry.invariant.1 c.in-Some.ensures.steps in
    (entry_writable c.args.message.now _ done e cut c.requires.encodable c.slots_back-entry-items.ensures.ascending c.slots_back-entry-items.ensures.sound).own

pub write_body-write_value-requires : goal.write_body-write_value-requires
write_body-write_value-requires g t c =
    let e : ℕ × FieldSlot Value = c.in-Some.entry.now in
    let done = c.loop-entry.invariant.0 in
    let cut = cut_pairs _ _ _ _ e c.loop-entry.invariant.1 c.in-Some.ensures.steps in
    let w = entry_writable c.args.message.now _ done e cut c.requires.encodable c.slots_back-entry-items.ensures.ascending c.slots_back-entry-items.ensures.sound in
    let v = w.value c.in-Value.value (one_value e.1 c.in-Value.value c.in-Value.is) in
    λ κs long. (elim c.in-Value.is [ inl is ↦ search (rules, the_lemmas) | inr both ↦ search (rules, the_lemmas) ], (long, rw c.message_type.ensures v))

pub write_body-loop-entry-preserved : goal.write_body-loop-entry-preserved
write_body-loop-entry-preserved g t c =
    let e : ℕ × FieldSlot Value = c.in-Some.entry.now in
    let done = c.loop-entry.invariant.0 in
    let cut = cut_pairs _ _ _ _ e c.loop-entry.invariant.1 c.in-Some.ensures.steps in
    let valued = one_value e.1 c.in-Value.value c.in-Value.is in
    (e ∷ done, cut, value_adds c.args.message.now _ done e cut g.S.Sink.added _ _ _ _ c.in-Value.value valued c.loop-entry.invariant.2 c.write_unknown.ensures (rw c.message_type.ensures at c.write_value.ensures))

pub write_body-loop-entry-preserved-in-Unknown-1 : goal.write_body-loop-entry-preserved-in-Unknown-1
write_body-loop-entry-preserved-in-Unknown-1 g t c =
    let e : ℕ × FieldSlot Value = c.in-Some.entry.now in
    let done = c.loop-entry.invariant.0 in
    let cut = cut_pairs _ _ _ _ e c.loop-entry.invariant.1 c.in-Some.ensures.steps in
    (e ∷ done, cut, unknown_adds c.args.message.now _ done e cut g.S.Sink.added _ _ _ (ap value_in c.in-Unknown.is) c.loop-entry.invariant.2 c.write_unknown.ensures)

pub write_body-returns : goal.write_body-returns
write_body-returns g t c = adds_same g.S.Sink.added _ _ _ _ (whole_written c.args.message.now _ c.loop-entry.invariant.0 c.loop-entry.invariant.1 c.in-None.ensures.steps.0) c.loop-entry.invariant.2

pub write_value-write_repeated-requires : goal.write_value-write_repeated-requires
write_value-write_repeated-requires g t c =
    λ κs long. (search (rules, the_lemmas), (long, (c.in-Some.ensures.field, (sym c.is_repeated.ensures ∙ c.if-is_repeated.true, c.requires.writable))))

pub write_repeated-write_nested_map-requires : goal.write_repeated-write_nested_map-requires
write_repeated-write_nested_map-requires g t c =
    let rows = nested_rows c.args.message_type.now c.args.number (field_row c.args.field.now) (field_row c.in-Some.key.now) (field_row c.in-Some.element.now) c.requires.field c.in-Some.ensures (ap names_message c.in-Message.is) in
    λ κs long. (search (rules, the_lemmas), (long, (rows, c.requires.writable)))

pub write_repeated-write_map-requires-clause-rows : goal.write_repeated-write_map-requires-clause-rows
write_repeated-write_map-requires-clause-rows g t c =
    map_of_rows c.args.message_type.now c.args.number (field_row c.args.field.now) c.requires.field c.requires.repeated (field_row c.in-Some.key.now) (field_row c.in-Some.element.now) c.in-Some.ensures (no_message_kind (field_row c.in-Some.element.now).kind c.in_default.not-Message)

pub write_repeated-write_map-requires-clause-map : goal.write_repeated-write_map-requires-clause-map
write_repeated-write_map-requires-clause-map g t c = valid_map_value c.args.message_type.now c.args.number (field_row c.in-Some.key.now) (field_row c.in-Some.element.now) (value_of c.args.value.now)
    (map_of_rows c.args.message_type.now c.args.number (field_row c.args.field.now) c.requires.field c.requires.repeated (field_row c.in-Some.key.now) (field_row c.in-Some.element.now) c.in-Some.ensures (no_message_kind (field_row c.in-Some.element.now).kind c.in_default.not-Message)) c.requires.writable.valid

pub write_repeated-write_elements-requires : goal.write_repeated-write_elements-requires
write_repeated-write_elements-requires g t c =
    let form = listed_form c.args.message_type.now c.args.number (field_row c.args.field.now) c.requires.field c.requires.repeated c.in-None.ensures in
    λ κs long. (
      search (rules, the_lemmas),
      (
        long,
        (
          c.requires.field,
          (
            c.requires.repeated,
            (
              c.in-None.ensures,
              (
                c.requires.writable,
                valid_list_value c.args.message_type.now c.args.number (field_row c.args.field.now) (value_of c.args.value.now) form c.requires.field c.requires.writable.valid,
              ),
            ),
          ),
        ),
      ),
    )

pub write_elements-write_messages-requires : goal.write_elements-write_messages-requires
write_elements-write_messages-requires g t c =
    let form = listed_form c.args.message_type.now c.args.number (field_row c.args.field.now) c.requires.field c.requires.repeated c.requires.no_map in
    let w = row_messages_written c.args.message_type.now c.args.number (field_row c.args.field.now) c.args.value.now c.in-List.values c.requires.field c.requires.repeated form (ap names_message c.in-Message.is) c.requires.writable c.in-List.is in
    λ κs long. (search (rules, the_lemmas), (long, w.takes))

pub write_elements-returns-in-Message : goal.write_elements-returns-in-Message
write_elements-returns-in-Message g t c =
    let form = listed_form c.args.message_type.now c.args.number (field_row c.args.field.now) c.requires.field c.requires.repeated c.requires.no_map in
    adds_same g.S.Sink.added _ _ _ _
    (sym (row_messages_written c.args.message_type.now c.args.number (field_row c.args.field.now) c.args.value.now c.in-List.values c.requires.field c.requires.repeated form (ap names_message c.in-Message.is) c.requires.writable c.in-List.is).bytes)
    c.write_messages.ensures

pub write_elements-write_list-requires : goal.write_elements-write_list-requires
write_elements-write_list-requires g t c =
    let scalar = no_message_kind (field_row c.args.field.now).kind c.in_default-kind.not-Message in
    takes_same (known_of c.args.message_type.now) c.args.number (field_row c.args.field.now).kind (field_row c.args.field.now).is_packed c.in-List.values.items c.deref.result.now c.deref.ensures.value
    (row_list_written c.args.message_type.now c.args.number (field_row c.args.field.now) c.args.value.now c.in-List.values scalar c.requires.field c.requires.repeated c.requires.writable.valid c.in-List.is)

pub write_elements-returns-in_default-kind : goal.write_elements-returns-in_default-kind
write_elements-returns-in_default-kind g t c =
    let scalar = no_message_kind (field_row c.args.field.now).kind c.in_default-kind.not-Message in
    adds_same g.S.Sink.added _ _ _ _
    (sym (list_value_bytes (known_of c.args.message_type.now) c.args.number (field_row c.args.field.now).kind (field_row c.args.field.now).is_packed c.args.value.now c.in-List.values c.deref.result.now c.in-List.is c.deref.ensures.value
    (row_list_written c.args.message_type.now c.args.number (field_row c.args.field.now) c.args.value.now c.in-List.values scalar c.requires.field c.requires.repeated c.requires.writable.valid c.in-List.is)))
    c.write_list.ensures

pub write_value-write_message-requires : goal.write_value-write_message-requires
write_value-write_message-requires g t c =
    let w = nested_written c.args.message_type.now c.args.number (field_row c.in-Some.field.now) c.args.value.now c.in-Message.message (sym c.is_repeated.ensures ∙ c.if-is_repeated.false) c.in-Some.ensures.field c.requires.writable c.in-Message.is in
    λ κs long. (search (rules, the_lemmas), (long, w.fits))

pub write_value-returns-in-Message : goal.write_value-returns-in-Message
write_value-returns-in-Message g t c =
    adds_same g.S.Sink.added _ _ _ _
    (sym (nested_written c.args.message_type.now c.args.number (field_row c.in-Some.field.now) c.args.value.now c.in-Message.message (sym c.is_repeated.ensures ∙ c.if-is_repeated.false) c.in-Some.ensures.field c.requires.writable c.in-Message.is).bytes)
    c.write_message.ensures

pub write_value-scalar-requires : goal.write_value-scalar-requires
write_value-scalar-requires g t c = takes_scalar (field_row c.in-Some.field.now).kind (value_of c.args.value.now)
    (row_written c.args.message_type.now c.args.number (field_row c.in-Some.field.now) (value_of c.args.value.now) (sym c.is_repeated.ensures ∙ c.if-is_repeated.false) c.in-Some.ensures.field c.requires.writable.valid (no_message_value c.args.value.now c.in_default.not-Message)).takes

pub write_value-write_kept_scalar-requires : goal.write_value-write_kept_scalar-requires
write_value-write_kept_scalar-requires g t c = subst (TakesScalar (field_row c.in-Some.field.now).kind) (sym c.scalar.ensures) (row_written c.args.message_type.now c.args.number (field_row c.in-Some.field.now) (value_of c.args.value.now) (sym c.is_repeated.ensures ∙ c.if-is_repeated.false) c.in-Some.ensures.field c.requires.writable.valid (no_message_value c.args.value.now c.in_default.not-Message)).takes

pub write_value-returns-in_default : goal.write_value-returns-in_default
write_value-returns-in_default g t c =
    let written = row_written c.args.message_type.now c.args.number (field_row c.in-Some.field.now) (value_of c.args.value.now) (sym c.is_repeated.ensures ∙ c.if-is_repeated.false) c.in-Some.ensures.field c.requires.writable.valid (no_message_value c.args.value.now c.in_default.not-Message) in
    adds_same g.S.Sink.added _ _ _ _ (ap (kept_scalar_bytes c.args.number (pool_rows c.args.message_type.now.pool).enums (field_row c.in-Some.field.now)) c.scalar.ensures ∙ sym written.bytes) c.write_kept_scalar.ensures

pub write_messages-unreachable-requires : goal.write_messages-unreachable-requires
write_messages-unreachable-requires g t c =
    no_element c.index.result.now (holds_at (λ v. ElementWritable (value_of v)) c.args.values.now.items (c.loop-index.index - 1) c.index.result.now (omega (arith, c.loop-index-test.true, c.loop-index.auto.index, c.len-index.ensures)) c.index.ensures c.requires) c.in_default.not-Message

pub write_nested_map-write_entries-requires : goal.write_nested_map-write_entries-requires
write_nested_map-write_entries-requires g t c =
    λ κs long. (search (rules, the_lemmas), (long, (nested_rows_written c.args.message_type.now c.args.number (field_row c.args.key_field.now) (field_row c.args.value_field.now) c.args.value.now c.requires.rows c.requires.writable c.in-Map.pairs c.in-Map.is).takes))

pub write_nested_map-returns : goal.write_nested_map-returns
write_nested_map-returns g t c =
    adds_same g.S.Sink.added _ _ _ _ (sym (nested_value_bytes c.args.message_type.now c.args.number (field_row c.args.key_field.now) (field_row c.args.value_field.now) c.args.value.now c.requires.rows c.requires.writable c.in-Map.pairs c.in-Map.is)) c.write_entries.ensures

pub write_entries-write_entry-requires : goal.write_entries-write_entry-requires
write_entries-write_entry-requires g t c =
    let e : MapKey × Value = (c.in-Some.key.now, c.in-Some.value.now) in
    let cut = cut_pairs _ _ _ _ e c.loop-key.invariant.1 c.in-Some.ensures.steps in
    let bound = most_in (λ (x : MapKey × Value). x.1) (the_depth member-Value) c.args.pairs.now.entries _ c.loop-key.invariant.0 e cut in
    λ κs long. (search (rules, the_lemmas, bound), (long, entry_at (field_row c.args.key_field.now).kind _ _ e (subst (AreEntries (field_row c.args.key_field.now).kind) cut c.requires)))

pub write_entries-loop-key-preserved : goal.write_entries-loop-key-preserved
write_entries-loop-key-preserved g t c =
    let done = c.loop-key.invariant.0 in
    let e : MapKey × Value = (c.in-Some.key.now, c.in-Some.value.now) in
    (e ∷ done, cut_pairs _ _ _ _ e c.loop-key.invariant.1 c.in-Some.ensures.steps, adds_in_turn g.S.Sink.added _ _ _ _ _ c.loop-key.invariant.2 c.write_entry.ensures)

pub write_entry-unreachable-requires : goal.write_entry-unreachable-requires
write_entry-unreachable-requires g t c = no_element c.args.value.now c.requires.message c.in_default.not-Message

pub write_entry-write_message-requires : goal.write_entry-write_message-requires
write_entry-write_message-requires g t c = λ κs long. (search (rules, the_lemmas), (long, element_encodable c.in-Message.message c.args.value.now c.in-Message.is c.requires.message))
