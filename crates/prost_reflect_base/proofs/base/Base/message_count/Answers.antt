use Rattle.std.proofs.Common.{◌∙◌}
use Rattle.prost_reflect_base.proofs.Linked.{message_count}
use Rattle.prost_reflect_base.proofs.base.Base.message_count.Goals as goal

pub returns : goal.returns
returns c = c.message_count.ensures ∙ message_count c.args.self.now.pool.now
