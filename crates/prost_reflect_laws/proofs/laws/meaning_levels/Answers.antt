use Rattle.prost_reflect_laws.proofs.GoodSteps.{meaning_levels}
use Rattle.prost_reflect_laws.proofs.laws.meaning_levels.Goals as goal

pub returns : goal.returns
returns c = meaning_levels
