use Rattle.std.specs.List.{list_any}
use Rattle.std.specs.Option.{is_some}
use Rattle.std.specs.Str.{bytes_eq}
use Rattle.std.proofs.Common.{ap, ◌∙◌}
use Rattle.prost_reflect_pool.specs.Pools.{pool_rows}
use Rattle.prost_reflect_pool.proofs.InCatalog.{message_name}
use Rattle.prost_reflect_base.proofs.Lists.{some_named}
use Rattle.prost_reflect_base.proofs.Linked.{messages_named}
use Rattle.prost_reflect_base.proofs.base.Base.has_message.Goals as goal

pub returns : goal.returns
returns c =
    let pool = c.args.self.now.pool.now in
    let name = c.args.full_name.now in
    c.is_some.ensures ∙ (ap is_some c.message_place.ensures ∙ (some_named message_name name (pool_rows pool).messages ∙ ap (list_any (bytes_eq name)) (messages_named pool)))
