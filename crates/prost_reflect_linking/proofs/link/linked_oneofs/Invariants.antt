use Rattle.std.specs.Prelude.{◌≡◌, ◌++◌}
use Rattle.prost_reflect_linking.proofs.Common.{drop, map, field_row, oneof_row, definition_row, oneofs_from}
use Rattle.prost_reflect_linking.proofs.link.linked_oneofs.Given as goal

abbrev pub invariant-loop-place : goal.invariant-loop-place
invariant-loop-place l =
    map oneof_row l.tables.items ++ oneofs_from (map field_row l.fields) (map definition_row l.declared) l.place (map definition_row (drop l.place l.oneofs))
    ≡ oneofs_from (map field_row l.fields) (map definition_row l.declared) 0 (map definition_row l.oneofs)
