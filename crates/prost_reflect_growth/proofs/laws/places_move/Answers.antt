use Rattle.prost_reflect_growth.proofs.Moving.{places_move}
use Rattle.prost_reflect_growth.proofs.laws.places_move.Goals as goal

pub returns : goal.returns
returns c = places_move
