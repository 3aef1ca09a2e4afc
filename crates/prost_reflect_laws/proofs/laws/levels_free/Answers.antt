use Rattle.prost_reflect_laws.proofs.Pieces.{levels_within}
use Rattle.prost_reflect_laws.proofs.laws.levels_free.Goals as goal

pub returns : goal.returns
returns c = levels_within
