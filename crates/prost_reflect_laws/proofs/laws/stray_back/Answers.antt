use Rattle.prost_reflect_laws.proofs.Values.{stray_back}
use Rattle.prost_reflect_laws.proofs.laws.stray_back.Goals as goal

pub returns : goal.returns
returns c = stray_back
