use Rattle.prost_reflect_laws.proofs.Pieces.{allowed_within}
use Rattle.prost_reflect_laws.proofs.laws.allowed_further.Goals as goal

pub returns : goal.returns
returns c = allowed_within
