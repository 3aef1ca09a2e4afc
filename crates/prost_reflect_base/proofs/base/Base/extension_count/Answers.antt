use Rattle.std.proofs.Common.{◌∙◌}
use Rattle.prost_reflect_base.proofs.Linked.{extension_count}
use Rattle.prost_reflect_base.proofs.base.Base.extension_count.Goals as goal

pub returns : goal.returns
returns c = c.extension_count.ensures ∙ extension_count c.args.self.now.pool.now
