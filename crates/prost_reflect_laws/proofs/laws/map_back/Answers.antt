use Rattle.prost_reflect_laws.proofs.Maps.{map_back}
use Rattle.prost_reflect_laws.proofs.laws.map_back.Goals as goal

pub returns : goal.returns
returns c = map_back
