use Rattle.prost_reflect_laws.proofs.Values.{scalar_back}
use Rattle.prost_reflect_laws.proofs.laws.scalar_back.Goals as goal

pub returns : goal.returns
returns c = scalar_back
