use Rattle.prost_reflect_laws.proofs.NormalForms.{decoded_well}
use Rattle.prost_reflect_laws.proofs.laws.decoded_well.Goals as goal

pub returns : goal.returns
returns c = decoded_well
