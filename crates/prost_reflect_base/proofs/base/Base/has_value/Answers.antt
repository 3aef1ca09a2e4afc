use Rattle.std.proofs.Common.{◌∙◌}
use Rattle.prost_reflect_base.proofs.FullNames.{values_told}
use Rattle.prost_reflect_base.proofs.base.Base.has_value.Goals as goal

pub returns : goal.returns
returns c = c.is_some.ensures ∙ (c.value_place.ensures.known ∙ values_told c.args.self.now.pool.now c.args.full_name.now)
