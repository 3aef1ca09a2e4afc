use Rattle.std.specs.Prelude.{◌≡◌, ◌++◌}
use Rattle.prost_reflect_catalog.proofs.Common.{map, drop, service_row, text_list}
use Rattle.prost_reflect_catalog.proofs.catalog.service_names.Given as goal

abbrev pub invariant-loop-service : goal.invariant-loop-service
invariant-loop-service l = text_list l.names.items ++ map (λ s. s.definition.full_name) (map service_row (drop l.service-index l.services)) ≡ map (λ s. s.definition.full_name) (map service_row l.services)
