use Rattle.std.specs.Prelude.{◌≡◌, ◌++◌}
use Rattle.prost_reflect_dynamic.proofs.Common.{ℕ, List, drop, items_left, FieldSlot, Value, stored_in, stored_items, stored_pairs, stored_entries, value_stored, same_items, same_pairs, same_entries, equal_messages}
use Rattle.std.specs.Slice.Iter.{iter_rest}
use Rattle.prost_reflect_dynamic.proofs.message.equality.+equality.Given as goal

-- the lists, the maps, the messages are equal exactly if what is left of them is
abbrev pub invariant-are_equal_lists-loop-value : goal.invariant-are_equal_lists-loop-value
invariant-are_equal_lists-loop-value l =
    (goal.iterator-are_equal_lists-loop-value).can_next l.others ×
    (goal.iterator-are_equal_lists-loop-value).is_finite l.others ×
    (same_items (stored_items value_stored (drop l.value-index l.value-items)) (stored_items value_stored (iter_rest l.others)) ≡ same_items (stored_items value_stored l.a.items) (stored_items value_stored l.b.items))

abbrev pub invariant-are_equal_maps-loop-key : goal.invariant-are_equal_maps-loop-key
invariant-are_equal_maps-loop-key l = same_pairs (stored_pairs value_stored l.key-iterator) (stored_pairs value_stored l.others) ≡ same_pairs (stored_pairs value_stored l.a.entries) (stored_pairs value_stored l.b.entries)

abbrev pub invariant-are_equal_messages-loop-number : goal.invariant-are_equal_messages-loop-number
invariant-are_equal_messages-loop-number l =
    (same_entries (stored_entries value_stored (items_left l.number-iterator)) (stored_entries value_stored (items_left l.others)) ≡ equal_messages l.a l.b) ×
    ((done : List (ℕ × FieldSlot Value)) × (stored_in l.a ≡ done ++ items_left l.number-iterator)) ×
    ((done : List (ℕ × FieldSlot Value)) × (stored_in l.b ≡ done ++ items_left l.others))
