use Rattle.prost_reflect_growth.proofs.Flats.{flat_grows}
use Rattle.prost_reflect_growth.proofs.laws.flat_grows.Goals as goal

pub returns : goal.returns
returns c = flat_grows
