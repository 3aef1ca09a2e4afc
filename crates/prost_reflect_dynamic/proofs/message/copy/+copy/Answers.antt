use Rattle.std.specs.Prelude.{◌≡◌, ◌∷◌, ◌++◌}
use Rattle.prost_reflect_dynamic.proofs.Common.{rules, ℕ, List, [], sym, ap, ◌∙◌, subst, append_assoc, same_from_all_zip, IsStrictlySortedBy, keys_of, Bytes, records_of, SameMessage, IsAscending, PooledType, FieldSlot, MapKey, Value, compare_keys, pairs_seen, StoredScalar, value_stored}
use Rattle.prost_reflect_dynamic.proofs.StoredViews.{stored_bytes}
use Rattle.prost_reflect_dynamic.proofs.Copied.{parts_of, entry_parts, copied_next, all_given, one_given, sound_copied, message_copied, keys_appended, value_copied, unknown_copied, both_copied}
use Rattle.prost_reflect_dynamic.proofs.CopiedPairs.{pair_copied, map_copied}
use Rattle.prost_reflect_dynamic.proofs.message.copy.+copy.Goals as goal
use Rattle.prost_reflect_dynamic.proofs.message.copy.+copy.Goals.{copy_message-in-Value+in_ok-copy_value-in-Value, copy_message-in-Unknown+in_ok-clone-in-Unknown, copy_message-in-Both+in_ok-value-in-Both+in_ok-clone-in-Both+in_ok-unknown-in-Both}

of_same : (a b c : PooledType) → b ≡ a → SameMessage b c → SameMessage a c
of_same a b c e h = subst (λ d. SameMessage d c) e h

pub copy_message-from_slots-requires : goal.copy_message-from_slots-requires
copy_message-from_slots-requires t c =
    let message = c.args.message.now in
    let copied = c.in_ok-shared.shared in
    let l = c.loop-number.invariant in
    sound_copied message.fields.0 copied message.fields.1 c.loop-number.fields.0
    (of_same message.fields.0 c.message_type.result.now copied c.message_type.ensures c.in_ok-shared.ensures.cases)
    (l.2 ∙ ap parts_of (all_given message.fields.1 l.0 _ l.1 c.in-None.ensures.steps.0))
    c.slots-number-items.ensures.sound

pub copy_message-returns : goal.copy_message-returns
copy_message-returns t c =
    let message = c.args.message.now in
    let copied = c.in_ok-shared.shared in
    let l = c.loop-number.invariant in
    let same = of_same message.fields.0 c.message_type.result.now copied c.message_type.ensures c.in_ok-shared.ensures.cases in
    let all = l.2 ∙ ap parts_of (all_given message.fields.1 l.0 _ l.1 c.in-None.ensures.steps.0) in
    let is = c.from_slots.ensures in
    let kept = subst (λ (p : PooledType × List (ℕ × FieldSlot Value)). SameMessage message.fields.0 p.0) (sym is) same in
    message_copied message c.from_slots.result kept (ap (λ (p : PooledType × List (ℕ × FieldSlot Value)). parts_of p.1) is ∙ all)

pub copy_message-loop-number-preserved : goal.copy_message-loop-number-preserved
copy_message-loop-number-preserved t c =
    let l = c.loop-number.invariant in
    let item = c.in-Some.field-0.now in
    let cut = one_given _ l.0 item _ _ l.1 c.in-Some.ensures.steps in
    let ascending = subst IsAscending (cut ∙ append_assoc l.0 (item ∷ []) _) c.slots-number-items.ensures.ascending in
    let parts : entry_parts c.match-entry.copied ≡ entry_parts item.1 = elim c.match-entry.branch [
      | copy_message-in-Value+in_ok-copy_value-in-Value w ↦
          ap entry_parts w.copied-is ∙ value_copied w.in_ok-copy_value-in-Value.field-0 w.in-Value.value w.in_ok-copy_value-in-Value.ensures ∙ ap entry_parts (sym w.in-Value.is)
      | copy_message-in-Unknown+in_ok-clone-in-Unknown w ↦
          ap entry_parts w.copied-is ∙ unknown_copied w.in_ok-clone-in-Unknown.field-0 w.in-Unknown.unknown w.in_ok-clone-in-Unknown.ensures.cases ∙ ap entry_parts (sym w.in-Unknown.is)
      | copy_message-in-Both+in_ok-value-in-Both+in_ok-clone-in-Both+in_ok-unknown-in-Both w ↦
          ap entry_parts w.copied-is
          ∙ both_copied w.in_ok-value-in-Both.value w.in-Both.value w.in_ok-unknown-in-Both.unknown w.in-Both.unknown w.in_ok-value-in-Both.ensures
          (ap records_of w.in_ok-unknown-in-Both.ensures ∙ w.in_ok-clone-in-Both.ensures.cases ∙ ap records_of w.get.ensures)
          ∙ ap entry_parts (sym w.in-Both.is)
    ] in
    (l.0 ++ item ∷ [], cut, ap (λ held. parts_of held.0) c.in_ok-insert.ensures.ok ∙ copied_next c.loop-number.fields.0 l.0 _ item.0 item.1 c.match-entry.copied ascending l.2 parts)

pub copy_pairs-loop-key-preserved : goal.copy_pairs-loop-key-preserved
copy_pairs-loop-key-preserved t c =
    let l = c.loop-key in
    let done = l.invariant.0 in
    let e : MapKey × Value = (c.in-Some.key.now, c.in-Some.value.now) in
    let left = c.next.new.self in
    let all : c.args.pairs.now.entries ≡ done ++ e ∷ left = l.invariant.1 ∙ ap (λ es. done ++ es) c.in-Some.ensures.steps in
    let keys = ap keys_of all ∙ keys_appended done (e ∷ left) in
    let sorted = subst (IsStrictlySortedBy compare_keys) keys c.iter-key-items.ensures.ordered in (
      done ++ e ∷ [],
      all ∙ sym (append_assoc done (e ∷ []) left),
      ap pairs_seen c.in_ok-insert.ensures.entries
          ∙ pair_copied l.copied.entries done e.0 c.in_ok-clone.field-0 e.1 c.in_ok-value.value (keys_of left) sorted l.invariant.2 c.in_ok-clone.ensures.cases c.in_ok-value.ensures,
    )

pub copy_value-returns-in_ok-clone-in-Bytes : goal.copy_value-returns-in_ok-clone-in-Bytes
copy_value-returns-in_ok-clone-in-Bytes t c =
    let same : c.in_ok-clone-in-Bytes.field-0.items ≡ c.in-Bytes.value.items = search (rules, same_from_all_zip) in
    rw (c.in-Bytes.is, stored_bytes c.in_ok-clone-in-Bytes.field-0, stored_bytes c.in-Bytes.value) (ap (λ (l : List ℕ). StoredScalar (Bytes l)) same)

pub copy_value-returns-in_ok-copy_pairs-in-Map : goal.copy_value-returns-in_ok-copy_pairs-in-Map
copy_value-returns-in_ok-copy_pairs-in-Map t c = map_copied c.in_ok-copy_pairs-in-Map.field-0 c.in-Map.pairs c.in_ok-copy_pairs-in-Map.ensures ∙ ap value_stored (sym c.in-Map.is)
