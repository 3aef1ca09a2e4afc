use Rattle.prost_reflect_laws.proofs.Pieces.{pieces_join}
use Rattle.prost_reflect_laws.proofs.laws.pieces_join.Goals as goal

pub returns : goal.returns
returns c = pieces_join
