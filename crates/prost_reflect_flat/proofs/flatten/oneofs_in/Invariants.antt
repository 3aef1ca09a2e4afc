use Rattle.std.specs.Prelude.{◌≡◌, ◌++◌}
use Rattle.prost_reflect_flat.proofs.Common.{map, drop, defined_from, oneof_name, scope_row, definition_row}
use Rattle.prost_reflect_flat.proofs.flatten.oneofs_in.Given as goal

abbrev pub invariant-loop-place : goal.invariant-loop-place
invariant-loop-place l = map definition_row l.oneofs.items ++ defined_from oneof_name (scope_row l.scope) 8 l.place (drop l.place l.protos) ≡ defined_from oneof_name (scope_row l.scope) 8 0 l.protos
