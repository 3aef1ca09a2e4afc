use Rattle.std.proofs.Common.{◌∙◌}
use Rattle.prost_reflect_base.proofs.Linked.{service_count}
use Rattle.prost_reflect_base.proofs.base.Base.service_count.Goals as goal

pub returns : goal.returns
returns c = c.service_count.ensures ∙ service_count c.args.self.now.pool.now
