use Rattle.std.specs.Option.{option_copied}
use Rattle.std.proofs.Common.{map, sym, ap, ◌∙◌}
use Rattle.prost_reflect_tables.specs.CatalogRows.{service_table_row}
use Rattle.prost_reflect_tables.specs.LinkedCatalog.{service_names}
use Rattle.prost_reflect_tables.specs.declared.catalog.Catalog.{Catalog}
use Rattle.prost_reflect_pool.specs.Pools.{pool_catalog}
use Rattle.prost_reflect_pool.proofs.InCatalog.{service_name}
use Rattle.prost_reflect_base.proofs.Linked.{flat_of, services_named}
use Rattle.prost_reflect_base.proofs.NamedPlaces.{name_there, no_name}
use Rattle.prost_reflect_base.proofs.base.Base.service_name.Goals as goal

pub returns-in-Some : goal.returns-in-Some
returns-in-Some c =
    let pool = c.args.self.now.pool.now in
    c.full_name.ensures
    ∙ name_there service_table_row service_name c.catalog.result.now.services (pool_catalog pool).services (service_names (flat_of pool)) c.args.place c.in-Some.service.now (ap (λ (k : Catalog). map service_table_row k.services) c.catalog.ensures) (services_named pool)
    (sym c.get.ensures ∙ ap option_copied c.in-Some.is)

pub returns-in-None : goal.returns-in-None
returns-in-None c =
    let pool = c.args.self.now.pool.now in
    no_name service_table_row service_name c.catalog.result.now.services (pool_catalog pool).services (service_names (flat_of pool)) c.args.place (ap (λ (k : Catalog). map service_table_row k.services) c.catalog.ensures) (services_named pool) (sym c.get.ensures ∙ ap option_copied c.in-None.is)
