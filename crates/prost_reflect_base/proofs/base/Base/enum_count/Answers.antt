use Rattle.std.proofs.Common.{◌∙◌}
use Rattle.prost_reflect_base.proofs.Linked.{enum_count}
use Rattle.prost_reflect_base.proofs.base.Base.enum_count.Goals as goal

pub returns : goal.returns
returns c = c.enum_count.ensures ∙ enum_count c.args.self.now.pool.now
