use Rattle.std.specs.Option.{option_copied}
use Rattle.std.proofs.Common.{List, map, sym, ap, ◌∙◌}
use Rattle.prost_reflect_tables.specs.LinkedCatalog.{value_full_names}
use Rattle.prost_reflect_tables.specs.Orders.{text_at}
use Rattle.prost_reflect_tables.specs.Rows.{TableRows, enum_row, enum_value_row}
use Rattle.prost_reflect_tables.specs.declared.tables.EnumValueTable.{EnumValueTable}
use Rattle.prost_reflect_pool.specs.Pools.{pool_rows}
use Rattle.prost_reflect_pool.proofs.InCatalog.{value_full_name}
use Rattle.prost_reflect_base.proofs.Linked.{flat_of}
use Rattle.prost_reflect_base.proofs.NamedPlaces.{names_in, values_named, value_there, no_value}
use Rattle.prost_reflect_base.proofs.base.Base.value_name.Goals as goal

pub returns-in-Some : goal.returns-in-Some
returns-in-Some c =
    let pool = c.args.self.now.pool.now in
    c.full_name_of_value.ensures
    ∙ (ap (λ (values : List EnumValueTable). text_at (map value_full_name (map enum_value_row values)) c.args.place.1) c.as_slice.ensures.value
    ∙ value_there enum_row names_in c.tables.result.now.enums (pool_rows pool).enums (value_full_names (flat_of pool)) c.args.place c.in-Some.declared.now (ap (λ (r : TableRows). r.enums) c.tables.ensures) (values_named pool)
    (sym c.get.ensures ∙ ap option_copied c.in-Some.is))

pub returns-in-None : goal.returns-in-None
returns-in-None c =
    let pool = c.args.self.now.pool.now in
    no_value enum_row names_in c.tables.result.now.enums (pool_rows pool).enums (value_full_names (flat_of pool)) c.args.place (ap (λ (r : TableRows). r.enums) c.tables.ensures) (values_named pool) (sym c.get.ensures ∙ ap option_copied c.in-None.is)
