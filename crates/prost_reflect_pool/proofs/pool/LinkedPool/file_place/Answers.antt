use Rattle.prost_reflect_pool.proofs.Common.{rules, map, ◌∙◌, files_of}
use Rattle.prost_reflect_pool.proofs.InOrder.{named_found, text_order}
use Rattle.prost_reflect_pool.proofs.InCatalog.{file_name, file_order}
use Rattle.prost_reflect_pool.proofs.pool.LinkedPool.file_place.Goals as goal

pub returns : goal.returns
returns c =
    let pool = c.args.self.now in
    let rows = files_of pool in
    named_found file_name rows c.args.name.now _ _ (c.as_slice.ensures ∙ file_order (files_of pool) pool.catalog pool.listed)
    (c.first_equal.ensures (text_order (map file_name rows) c.args.name.now) (λ x r h. search rules))
