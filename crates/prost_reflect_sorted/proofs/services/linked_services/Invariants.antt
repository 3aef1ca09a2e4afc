use Rattle.std.specs.Prelude.{◌≡◌, ◌++◌}
use Rattle.prost_reflect_sorted.proofs.Common.{map, drop, service_row, flat_rows, all_rows, service_table_row, links_of, linked_service}
use Rattle.prost_reflect_base.specs.Below.{catalog_below}
use Rattle.prost_reflect_sorted.proofs.services.linked_services.Given as goal

abbrev pub invariant-loop-service : goal.invariant-loop-service
invariant-loop-service l =
    map service_table_row l.tables ++ map (linked_service (links_of (all_rows l.index.base (flat_rows l.flat)))) (map service_row (drop l.service-index l.services))
    ≡ (catalog_below l.index.base).services ++ map (linked_service (links_of (all_rows l.index.base (flat_rows l.flat)))) (map service_row l.services)
