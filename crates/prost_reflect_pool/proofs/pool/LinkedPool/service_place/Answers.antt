use Rattle.prost_reflect_pool.proofs.Common.{rules, map, ◌∙◌, pool_catalog, files_of}
use Rattle.prost_reflect_pool.proofs.InOrder.{named_found, text_order}
use Rattle.prost_reflect_pool.proofs.InCatalog.{service_name, service_order}
use Rattle.prost_reflect_pool.proofs.pool.LinkedPool.service_place.Goals as goal

pub returns : goal.returns
returns c =
    let pool = c.args.self.now in
    let rows = (pool_catalog pool).services in
    named_found service_name rows c.args.full_name.now _ _ (c.as_slice.ensures ∙ service_order (files_of pool) pool.catalog pool.listed)
    (c.first_equal.ensures (text_order (map service_name rows) c.args.full_name.now) (λ x r h. search rules))
