use Rattle.prost_reflect_growth.proofs.Merging.{ordered_grows}
use Rattle.prost_reflect_growth.proofs.laws.ordered_grows.Goals as goal

pub returns : goal.returns
returns c = ordered_grows
