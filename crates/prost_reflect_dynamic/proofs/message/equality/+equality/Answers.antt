use Rattle.std.specs.Prelude.{◌≡◌, ◌&&◌, ◌∷◌, ◌++◌}
use Rattle.prost_reflect_dynamic.proofs.Common.{true, true≢false, [], sym, ap, ap₂, ◌∙◌, items_left, value_stored, stored_entries, same_entries}
use Rattle.prost_reflect_wire.specs.Equality.{set_eq}
use Rattle.prost_reflect_dynamic.proofs.StoredViews.{texts_equal, bytes_equal, lists_equal, maps_equal, same_type, type_same, types_differ, types_same, numbers_differ, entry_alone, same_slot, slot_passed, keys_differ, values_differ, pair_passed, turned_true, turned_false}
use Rattle.prost_reflect_dynamic.proofs.Copied.{one_given}
use Rattle.prost_reflect_dynamic.proofs.message.equality.+equality.Goals as goal
use Rattle.prost_reflect_dynamic.proofs.message.equality.+equality.Goals.{are_equal_maps-then-ne-via-then-ne, are_equal_maps-then-ne-via-else-ne+then-not-are_equal_values, are_equal_messages-in-Value-Value, are_equal_messages-in-Unknown-Unknown, are_equal_messages-in-Both-Both+then-are_equal_values, are_equal_messages-in-Both-Both+else-are_equal_values, are_equal_messages-in_default-2, are_equal_messages-in_default-2-2, are_equal_messages-in_default-2-3}

pub are_equal_values-returns-in-String-String : goal.are_equal_values-returns-in-String-String
are_equal_values-returns-in-String-String t c = texts_equal c.args.a.now c.args.b.now c.in-String-String.a c.in-String-String.b c.eq.result c.in-String-String.is-0 c.in-String-String.is-1 c.eq.ensures

pub are_equal_values-returns-in-Bytes-Bytes : goal.are_equal_values-returns-in-Bytes-Bytes
are_equal_values-returns-in-Bytes-Bytes t c = bytes_equal c.args.a.now c.args.b.now c.in-Bytes-Bytes.a c.in-Bytes-Bytes.b c.eq-in-Bytes-Bytes.result c.in-Bytes-Bytes.is-0 c.in-Bytes-Bytes.is-1 c.eq-in-Bytes-Bytes.ensures

pub are_equal_values-returns-in-List-List : goal.are_equal_values-returns-in-List-List
are_equal_values-returns-in-List-List t c = lists_equal c.args.a.now c.args.b.now c.in-List-List.a c.in-List-List.b c.are_equal_lists.result c.in-List-List.is-0 c.in-List-List.is-1 c.are_equal_lists.ensures

pub are_equal_values-returns-in-Map-Map : goal.are_equal_values-returns-in-Map-Map
are_equal_values-returns-in-Map-Map t c = maps_equal c.args.a.now c.args.b.now c.in-Map-Map.a c.in-Map-Map.b c.are_equal_maps.result c.in-Map-Map.is-0 c.in-Map-Map.is-1 c.are_equal_maps.ensures

pub are_equal_maps-returns-then-ne : goal.are_equal_maps-returns-then-ne
are_equal_maps-returns-then-ne t c =
    let mine = c.in-Some in let others = c.in-Some-next in
    elim c.then-ne.branch [
      | are_equal_maps-then-ne-via-then-ne w ↦
          keys_differ mine.key.now others.other_key.now mine.value.now others.other.now _ _ _ _ _ mine.ensures.steps others.ensures.steps (turned_true c.ne.result _ c.ne.ensures w.if-ne.true) c.loop-key.invariant
      | are_equal_maps-then-ne-via-else-ne+then-not-are_equal_values w ↦
          values_differ mine.key.now others.other_key.now mine.value.now others.other.now _ _ _ _ _ mine.ensures.steps others.ensures.steps (turned_false c.ne.result _ c.ne.ensures w.if-ne.false) (sym w.are_equal_values.ensures ∙ w.if-not-are_equal_values.true) c.loop-key.invariant
    ]

pub are_equal_maps-loop-key-preserved : goal.are_equal_maps-loop-key-preserved
are_equal_maps-loop-key-preserved t c =
    let mine = c.in-Some in let others = c.in-Some-next in
    pair_passed mine.key.now others.other_key.now mine.value.now others.other.now _ _ _ _ _ mine.ensures.steps others.ensures.steps (turned_false c.ne.result _ c.ne.ensures c.if-ne.false) (sym c.are_equal_values.ensures ∙ c.if-not-are_equal_values.false) c.loop-key.invariant

pub are_equal_messages-returns-then-not-are_equal_types : goal.are_equal_messages-returns-then-not-are_equal_types
are_equal_messages-returns-then-not-are_equal_types t c =
    let types = sym (type_same c.message_type.result.now c.message_type-2.result.now c.are_equal_types.result c.are_equal_types.ensures) ∙ c.if-not-are_equal_types.true in
    types_differ c.args.a.now c.args.b.now (sym (ap₂ same_type c.message_type.ensures c.message_type-2.ensures) ∙ types)

pub are_equal_messages-loop-number-init : goal.are_equal_messages-loop-number-init
are_equal_messages-loop-number-init t c =
    let types = sym (type_same c.message_type.result.now c.message_type-2.result.now c.are_equal_types.result c.are_equal_types.ensures) ∙ c.if-not-are_equal_types.false in (
      ap₂ (λ es ds. same_entries (stored_entries value_stored es) (stored_entries value_stored ds)) (ap items_left c.into_iter-number-iterator.ensures.into_iter_gives ∙ c.slots-number-items.ensures.slots) c.slots-others.ensures.slots
          ∙ types_same c.args.a.now c.args.b.now (sym (ap₂ same_type c.message_type.ensures c.message_type-2.ensures) ∙ types),
      ([], sym (ap items_left c.into_iter-number-iterator.ensures.into_iter_gives ∙ c.slots-number-items.ensures.slots)),
      ([], sym c.slots-others.ensures.slots),
    )

pub are_equal_messages-returns-in_default : goal.are_equal_messages-returns-in_default
are_equal_messages-returns-in_default t c =
    entry_alone _ _ _ c.in-Some.field-0.now _ c.in-Some.ensures.steps c.in_default.ensures.steps.0 c.loop-number.invariant.0

pub are_equal_messages-returns-then-number-other_number : goal.are_equal_messages-returns-then-number-other_number
are_equal_messages-returns-then-number-other_number t c =
    numbers_differ _ _ _ _ c.in-Some.field-0.now c.in-Some-next.field-0.now _ c.in-Some.ensures.steps c.in-Some-next.ensures.steps c.if-number-other_number.true c.loop-number.invariant.0

pub are_equal_messages-loop-number-preserved : goal.are_equal_messages-loop-number-preserved
are_equal_messages-loop-number-preserved t c =
    let l = c.loop-number.invariant in
    let mine = c.in-Some.field-0.now in
    let others = c.in-Some-next.field-0.now in
    let same : same_slot mine.1 others.1 ≡ true = elim c.match-entry.branch [
      | are_equal_messages-in-Value-Value w ↦
          ap₂ same_slot w.in-Value-Value.is-0 w.in-Value-Value.is-1 ∙ sym w.are_equal_values-same.ensures ∙ sym w.same-is ∙ c.if-not-same.false
      | are_equal_messages-in-Unknown-Unknown w ↦
          ap₂ same_slot w.in-Unknown-Unknown.is-0 w.in-Unknown-Unknown.is-1 ∙ sym w.eq-same.ensures ∙ sym w.same-is ∙ c.if-not-same.false
      | are_equal_messages-in-Both-Both+then-are_equal_values w ↦
          ap₂ same_slot w.in-Both-Both.is-0 w.in-Both-Both.is-1
          ∙ ap₂ (λ x y. x && y) (sym w.are_equal_values.ensures ∙ w.if-are_equal_values.true) (ap₂ set_eq (sym w.get.ensures) (sym w.get-then-are_equal_values.ensures) ∙ sym w.eq.ensures ∙ sym w.same-is ∙ c.if-not-same.false)
      | are_equal_messages-in-Both-Both+else-are_equal_values w ↦ absurd (true≢false (sym c.if-not-same.false ∙ w.same-is ∙ w.if-are_equal_values.false))
      | are_equal_messages-in_default-2 w ↦ absurd (true≢false (sym c.if-not-same.false ∙ w.same-is))
      | are_equal_messages-in_default-2-2 w ↦ absurd (true≢false (sym c.if-not-same.false ∙ w.same-is))
      | are_equal_messages-in_default-2-3 w ↦ absurd (true≢false (sym c.if-not-same.false ∙ w.same-is))
    ] in (
      slot_passed _ _ _ _ mine others _ c.in-Some.ensures.steps c.in-Some-next.ensures.steps c.if-number-other_number.false same l.0,
      (l.1.0 ++ mine ∷ [], one_given _ l.1.0 mine _ _ l.1.1 c.in-Some.ensures.steps),
      (l.2.0 ++ others ∷ [], one_given _ l.2.0 others _ _ l.2.1 c.in-Some-next.ensures.steps),
    )
