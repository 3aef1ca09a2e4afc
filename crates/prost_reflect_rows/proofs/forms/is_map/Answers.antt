use Rattle.prost_reflect_rows.proofs.Common.{ap, sym, ◌∙◌, is_some, field_row}
use Rattle.prost_reflect_pool.specs.Pools.{pool_rows}
use Rattle.prost_reflect_rows.proofs.MapForms.{map_is, some_mapped}
use Rattle.prost_reflect_rows.proofs.forms.is_map.Goals as goal

pub returns : goal.returns
returns c = let pool = c.args.pool.now in
    c.is_some.ensures ∙ some_mapped _ c.map_parts.result ∙ ap is_some c.map_parts.ensures ∙ sym (map_is (pool_rows pool) (field_row c.args.field.now) pool.tables.linked)
