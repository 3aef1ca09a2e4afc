use Rattle.std.specs.Option.{option_copied}
use Rattle.std.proofs.Common.{sym, ap, ◌∙◌}
use Rattle.prost_reflect_tables.specs.Faults.{enum_names}
use Rattle.prost_reflect_tables.specs.Rows.{TableRows, enum_row}
use Rattle.prost_reflect_pool.specs.Pools.{pool_rows}
use Rattle.prost_reflect_pool.proofs.InCatalog.{enum_name}
use Rattle.prost_reflect_base.proofs.Linked.{flat_of, enums_named}
use Rattle.prost_reflect_base.proofs.NamedPlaces.{name_there, no_name}
use Rattle.prost_reflect_base.proofs.base.Base.enum_name.Goals as goal

pub returns-in-Some : goal.returns-in-Some
returns-in-Some c =
    let pool = c.args.self.now.pool.now in
    c.full_name.ensures
    ∙ name_there enum_row enum_name c.tables.result.now.enums (pool_rows pool).enums (enum_names (flat_of pool)) c.args.place c.in-Some.declared.now (ap (λ (r : TableRows). r.enums) c.tables.ensures) (enums_named pool)
    (sym c.get.ensures ∙ ap option_copied c.in-Some.is)

pub returns-in-None : goal.returns-in-None
returns-in-None c =
    let pool = c.args.self.now.pool.now in
    no_name enum_row enum_name c.tables.result.now.enums (pool_rows pool).enums (enum_names (flat_of pool)) c.args.place (ap (λ (r : TableRows). r.enums) c.tables.ensures) (enums_named pool) (sym c.get.ensures ∙ ap option_copied c.in-None.is)
