use Rattle.prost_reflect_laws.proofs.NormalForms.{merged_well}
use Rattle.prost_reflect_laws.proofs.laws.merged_well.Goals as goal

pub returns : goal.returns
returns c = merged_well
