use Rattle.prost_reflect_laws.proofs.StepsFree.{written_pieces}
use Rattle.prost_reflect_laws.proofs.laws.written_pieces.Goals as goal

pub returns : goal.returns
returns c = written_pieces
