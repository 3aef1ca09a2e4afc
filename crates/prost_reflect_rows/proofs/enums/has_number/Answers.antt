use Rattle.std.specs.Prelude.{◌≡◌}
use Rattle.prost_reflect_rows.proofs.Common.{ap, ◌∙◌, rules, w32, to_z, of_z, is_some, slice_get_within, enum_row, values_at, numbered_value}
use Rattle.std.proofs.Math.Facts.{to_z-of_z}
use Rattle.prost_reflect_pool.specs.Pools.{pool_rows}
use Rattle.prost_reflect_rows.proofs.DeclaredNumbers.{number_found}
use Rattle.prost_reflect_rows.proofs.enums.has_number.Goals as goal

pub value_place_by_number-requires : goal.value_place_by_number-requires
value_place_by_number-requires c = slice_get_within (pool_rows c.args.pool.now).enums c.args.place (enum_row c.args.table.now) c.requires

pub returns : goal.returns
returns c =
    let same : to_z w32 (of_z w32 c.args.number) ≡ c.args.number = search (rules, to_z-of_z) in
    let values = values_at (pool_rows c.args.pool.now) c.args.place in
    c.is_some.ensures ∙ (ap is_some (c.value_place_by_number.ensures ∙ ap (numbered_value values) same) ∙ number_found (pool_rows c.args.pool.now) c.args.place (enum_row c.args.table.now) c.args.number c.requires)
