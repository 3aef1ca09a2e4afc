use Rattle.std.specs.Prelude.{◌≡◌}
use Rattle.prost_reflect_pool.proofs.Common.{ℤ, List, map, ap, sym, ◌∙◌, rules, w32, to_z, of_z, to_z-of_z, all_places, by_number, EnumValueRow, enum_value_row, numbered_value, pool_rows, files_of}
use Rattle.prost_reflect_pool.proofs.InCatalog.{number_of, values_order}
use Rattle.prost_reflect_pool.proofs.pool.LinkedPool.value_place_by_number.Goals as goal

pub numbered_among-requires : goal.numbered_among-requires
numbered_among-requires c =
    let pool = c.args.self.now in
    c.as_slice.ensures.value
    ∙ ((values_order (files_of pool) (pool_rows pool) pool.catalog c.args.index _ pool.built pool.listed c.enum_lists-lists.ensures.row).by_number
    ∙ ap (λ (values : List EnumValueRow). by_number (map number_of values) (all_places (map number_of values))) (sym c.values.ensures))

pub returns : goal.returns
returns c =
    let same : to_z w32 (of_z w32 c.args.number) ≡ c.args.number = search (rules, to_z-of_z) in
    c.numbered_among.ensures
    ∙ (ap (λ (z : ℤ). numbered_value (map enum_value_row c.values.result.now) z) same
    ∙ ap (λ (values : List EnumValueRow). numbered_value values c.args.number) c.values.ensures)
