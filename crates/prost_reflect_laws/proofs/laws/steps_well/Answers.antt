use Rattle.prost_reflect_laws.proofs.NormalForms.{steps_well}
use Rattle.prost_reflect_laws.proofs.laws.steps_well.Goals as goal

pub returns : goal.returns
returns c = steps_well
