use Rattle.prost_reflect_dynamic.proofs.Common.{sym, ◌∙◌, field_row, value_of}
use Rattle.prost_reflect_pool.specs.Pools.{pool_rows}
use Rattle.prost_reflect_dynamic.proofs.Valid.{list_valid, map_valid}
use Rattle.prost_reflect_dynamic.proofs.value.valid.value_valid.Goals as goal

pub returns-in-Some : goal.returns-in-Some
returns-in-Some c =
    c.map_fits.ensures
    ∙ map_valid (pool_rows c.args.pool.now) (field_row c.args.field.now) (field_row c.in-Some.key.now) (field_row c.in-Some.part.now) (value_of c.args.value.now) (sym c.in-Some.ensures)

pub returns-in-None : goal.returns-in-None
returns-in-None c =
    c.list_fits.ensures
    ∙ list_valid (pool_rows c.args.pool.now) (field_row c.args.field.now) (value_of c.args.value.now) c.args.pool.now.tables.linked (sym c.is_repeated.ensures ∙ c.if-not-is_repeated.false) c.in-None.ensures
