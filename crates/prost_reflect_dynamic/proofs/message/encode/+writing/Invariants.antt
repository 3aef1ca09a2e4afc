use Rattle.std.specs.Prelude.{◌≡◌, ◌++◌}
use Rattle.prost_reflect_dynamic.proofs.Common.{ℕ, List, drop, field_row, pool_rows, nested_pairs_bytes, MapKey, Value, Adds, known_of, items_left_back, FieldSlot, message_type_of, stored_in, entries_bytes, elements_bytes}
use Rattle.std.specs.Iterator.Adapters.{rev_source}
use Rattle.prost_reflect_dynamic.proofs.message.encode.+writing.Given as goal

-- the slots behind those that are left are written
abbrev pub invariant-write_body-loop-entry : goal.invariant-write_body-loop-entry
invariant-write_body-loop-entry g l = (done : List (ℕ × FieldSlot Value)) × (stored_in l.message ≡ items_left_back l.entry-iterator ++ done)
    × Adds g.S.Sink.added l.fn.sink l.sink (entries_bytes (known_of (message_type_of l.message)) done)

-- the elements from the index on are written
abbrev pub invariant-write_messages-loop-index : goal.invariant-write_messages-loop-index
invariant-write_messages-loop-index g l = Adds g.S.Sink.added l.fn.sink l.sink (elements_bytes l.number l.is_group (drop l.index l.values.items))

-- the entries behind those that are left are written
abbrev pub invariant-write_entries-loop-key : goal.invariant-write_entries-loop-key
invariant-write_entries-loop-key g l = (done : List (MapKey × Value)) × (l.pairs.entries ≡ rev_source l.key-iterator ++ done)
    × Adds g.S.Sink.added l.fn.sink l.sink (nested_pairs_bytes l.number (pool_rows l.message_type.pool).enums (field_row l.key_field) done)
