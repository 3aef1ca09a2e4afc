use Rattle.std.specs.Prelude.{◌≡◌, ◌++◌}
use Rattle.prost_reflect_flat.proofs.Common.{map, drop, defined_from, field_name, scope_row, definition_row}
use Rattle.prost_reflect_flat.proofs.flatten.add_fields.Given as goal

abbrev pub invariant-loop-place : goal.invariant-loop-place
invariant-loop-place l = map definition_row l.fields.items ++ defined_from field_name (scope_row l.scope) l.number l.place (drop l.place l.protos) ≡ map definition_row l.fn.fields.items ++ defined_from field_name (scope_row l.scope) l.number 0 l.protos
