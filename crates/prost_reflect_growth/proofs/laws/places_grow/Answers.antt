use Rattle.prost_reflect_growth.proofs.Places.{places_grow}
use Rattle.prost_reflect_growth.proofs.laws.places_grow.Goals as goal

pub returns : goal.returns
returns c = places_grow
