use Rattle.prost_reflect_pool.proofs.Common.{rules, map, ◌∙◌, pool_rows, files_of}
use Rattle.prost_reflect_pool.proofs.InOrder.{named_found, text_order}
use Rattle.prost_reflect_pool.proofs.InCatalog.{enum_name, enum_order}
use Rattle.prost_reflect_pool.proofs.pool.LinkedPool.enum_place.Goals as goal

pub returns : goal.returns
returns c =
    let pool = c.args.self.now in
    let rows = (pool_rows pool).enums in
    named_found enum_name rows c.args.full_name.now _ _ (c.as_slice.ensures ∙ enum_order (files_of pool) (pool_rows pool) pool.catalog pool.built pool.listed)
    (c.first_equal.ensures (text_order (map enum_name rows) c.args.full_name.now) (λ x r h. search rules))
