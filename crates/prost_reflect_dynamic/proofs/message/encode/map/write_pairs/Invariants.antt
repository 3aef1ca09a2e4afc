use Rattle.std.specs.Prelude.{◌≡◌, ◌++◌}
use Rattle.prost_reflect_dynamic.proofs.Common.{List, Adds, field_row, pairs_bytes, pool_rows, MapKey, Value}
use Rattle.std.specs.Iterator.Adapters.{rev_source}
use Rattle.prost_reflect_dynamic.proofs.message.encode.map.write_pairs.Given as goal

-- the entries behind those that are left are written
abbrev pub invariant-loop-key : goal.invariant-loop-key
invariant-loop-key g l = (done : List (MapKey × Value)) × (l.pairs.entries ≡ rev_source l.key-iterator ++ done)
    × Adds g.S.Sink.added l.fn.sink l.sink (pairs_bytes l.number (pool_rows l.message_type.pool).enums (field_row l.key_field) (field_row l.value_field) done)
