use Rattle.prost_reflect_laws.proofs.StepsFree.{steps_within}
use Rattle.prost_reflect_laws.proofs.laws.steps_free.Goals as goal

pub returns : goal.returns
returns c = steps_within
