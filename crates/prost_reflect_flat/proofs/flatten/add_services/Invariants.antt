use Rattle.std.specs.Prelude.{◌≡◌, ◌++◌}
use Rattle.prost_reflect_flat.proofs.Common.{map, drop, services_from, scope_row, service_row}
use Rattle.prost_reflect_flat.proofs.flatten.add_services.Given as goal

abbrev pub invariant-loop-place : goal.invariant-loop-place
invariant-loop-place l = map service_row l.services.items ++ services_from (scope_row l.scope) l.number l.place (drop l.place l.protos) ≡ map service_row l.fn.services.items ++ services_from (scope_row l.scope) l.number 0 l.protos
