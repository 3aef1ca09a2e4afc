use Rattle.std.specs.Prelude.{◌≡◌, ◌++◌}
use Rattle.prost_reflect_dynamic.proofs.Common.{ℕ, List, drop, pool_contents, pool_rows, known_of, items_left, FieldSlot, Value, all_typed, entries_typed, items_typed, pairs_typed, stored_items, stored_pairs, stored_entries, value_stored, message_stored, message_type_of, stored_in}
use Rattle.prost_reflect_dynamic.proofs.message.typed.+typing.Given as goal

-- all are of their fields' types where those that are left are
abbrev pub invariant-message_typed-loop-number : goal.invariant-message_typed-loop-number
invariant-message_typed-loop-number l =
    (entries_typed (pool_contents (message_type_of l.message).pool) (pool_rows (message_type_of l.message).pool) (known_of (message_type_of l.message)) (stored_entries value_stored (items_left l.number-iterator)) ≡ all_typed (message_stored l.message)) ×
    ((done : List (ℕ × FieldSlot Value)) × (stored_in l.message ≡ done ++ items_left l.number-iterator))

abbrev pub invariant-items_typed-loop-value : goal.invariant-items_typed-loop-value
invariant-items_typed-loop-value l =
    items_typed (pool_contents l.message_type.pool) (pool_rows l.message_type.pool) l.place (stored_items value_stored (drop l.value-index l.value-items))
    ≡ items_typed (pool_contents l.message_type.pool) (pool_rows l.message_type.pool) l.place (stored_items value_stored l.values.items)

abbrev pub invariant-pairs_typed-loop-value : goal.invariant-pairs_typed-loop-value
invariant-pairs_typed-loop-value l =
    pairs_typed (pool_contents l.message_type.pool) (pool_rows l.message_type.pool) l.place (stored_pairs value_stored l.value-iterator)
    ≡ pairs_typed (pool_contents l.message_type.pool) (pool_rows l.message_type.pool) l.place (stored_pairs value_stored l.pairs.entries)
