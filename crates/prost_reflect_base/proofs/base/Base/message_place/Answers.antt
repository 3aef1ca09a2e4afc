use Rattle.std.proofs.Common.{ap, ◌∙◌}
use Rattle.prost_reflect_tables.specs.Faults.{name_place}
use Rattle.prost_reflect_pool.specs.Pools.{pool_rows}
use Rattle.prost_reflect_pool.proofs.InCatalog.{message_name}
use Rattle.prost_reflect_base.proofs.Lists.{first_named}
use Rattle.prost_reflect_base.proofs.Linked.{messages_named}
use Rattle.prost_reflect_base.proofs.base.Base.message_place.Goals as goal

pub returns : goal.returns
returns c =
    let pool = c.args.self.now.pool.now in
    c.message_place.ensures ∙ (first_named message_name c.args.full_name.now (pool_rows pool).messages ∙ ap (λ names. name_place names c.args.full_name.now) (messages_named pool))
