use Rattle.std.specs.Prelude.{◌≡◌, ◌++◌}
use Rattle.prost_reflect_flat.proofs.Common.{map, drop, defined_from, value_name, scope_row, definition_row}
use Rattle.prost_reflect_flat.proofs.flatten.values_in.Given as goal

abbrev pub invariant-loop-place : goal.invariant-loop-place
invariant-loop-place l = map definition_row l.values.items ++ defined_from value_name (scope_row l.scope) 2 l.place (drop l.place l.protos) ≡ defined_from value_name (scope_row l.scope) 2 0 l.protos
