use Rattle.prost_reflect_pool.proofs.Common.{rules, map, ◌∙◌, extension_name, pool_rows, pool_catalog, files_of}
use Rattle.prost_reflect_pool.proofs.InOrder.{named_found, text_order}
use Rattle.prost_reflect_pool.proofs.InCatalog.{extension_order}
use Rattle.prost_reflect_pool.proofs.pool.LinkedPool.extension_place.Goals as goal

pub returns : goal.returns
returns c =
    let pool = c.args.self.now in
    let rows = (pool_catalog pool).extensions in
    named_found (extension_name (pool_rows pool)) rows c.args.full_name.now _ _ (c.as_slice.ensures ∙ extension_order (files_of pool) (pool_rows pool) pool.catalog pool.built pool.tables.linked pool.listed)
    (c.first_equal.ensures (text_order (map (extension_name (pool_rows pool)) rows) c.args.full_name.now) (λ x r h. search rules))
