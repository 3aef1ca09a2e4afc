use Rattle.std.specs.Prelude.{◌≡◌, ◌++◌}
use Rattle.prost_reflect_flat.proofs.Common.{map, drop, enums_from, scope_row, enum_row}
use Rattle.prost_reflect_flat.proofs.flatten.add_enums.Given as goal

abbrev pub invariant-loop-place : goal.invariant-loop-place
invariant-loop-place l = map enum_row l.enums.items ++ enums_from (scope_row l.scope) l.number l.place (drop l.place l.protos) ≡ map enum_row l.fn.enums.items ++ enums_from (scope_row l.scope) l.number 0 l.protos
