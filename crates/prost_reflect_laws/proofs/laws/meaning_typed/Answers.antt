use Rattle.prost_reflect_laws.proofs.GoodSteps.{meaning_typed}
use Rattle.prost_reflect_laws.proofs.laws.meaning_typed.Goals as goal

pub returns : goal.returns
returns c = meaning_typed
