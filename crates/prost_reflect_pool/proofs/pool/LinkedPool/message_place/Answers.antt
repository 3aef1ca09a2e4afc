use Rattle.prost_reflect_pool.proofs.Common.{rules, ◌∙◌, map, pool_rows, files_of}
use Rattle.prost_reflect_pool.proofs.InOrder.{named_found, text_order}
use Rattle.prost_reflect_pool.proofs.InCatalog.{message_name, message_order}
use Rattle.prost_reflect_pool.proofs.pool.LinkedPool.message_place.Goals as goal

pub returns : goal.returns
returns c =
    let pool = c.args.self.now in
    let rows = (pool_rows pool).messages in
    named_found message_name rows c.args.full_name.now _ _ (c.as_slice.ensures ∙ message_order (files_of pool) (pool_rows pool) pool.catalog pool.built pool.listed)
    (c.first_equal.ensures (text_order (map message_name rows) c.args.full_name.now) (λ x r h. search rules))
