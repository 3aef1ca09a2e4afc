use Rattle.prost_reflect_pool.proofs.Common.{List, map, ap, sym, ◌∙◌, ordered, EnumValueRow, pool_rows, files_of}
use Rattle.prost_reflect_pool.proofs.InCatalog.{value_name, values_order}
use Rattle.prost_reflect_pool.proofs.pool.LinkedPool.value_place_by_name.Goals as goal

pub value_named_among-requires : goal.value_named_among-requires
value_named_among-requires c =
    let pool = c.args.self.now in
    c.as_slice.ensures.value
    ∙ ((values_order (files_of pool) (pool_rows pool) pool.catalog c.args.index _ pool.built pool.listed c.enum_lists-lists.ensures.row).by_name
    ∙ ap (λ (values : List EnumValueRow). ordered (map value_name values)) (sym c.values.ensures))
