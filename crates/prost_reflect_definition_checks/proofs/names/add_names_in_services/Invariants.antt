use Rattle.std.specs.Prelude.{◌≡◌, ◌++◌}
use Rattle.prost_reflect_definition_checks.proofs.Common.{map, drop, names_in_services, service_row, text_list}
use Rattle.prost_reflect_definition_checks.proofs.names.add_names_in_services.Given as goal

abbrev pub invariant-loop-service : goal.invariant-loop-service
invariant-loop-service l = text_list l.names.items ++ names_in_services (map service_row (drop l.service-index l.services)) ≡ text_list l.fn.names.items ++ names_in_services (map service_row l.services)
