use Rattle.prost_reflect_growth.proofs.Merging.{sorted_grows}
use Rattle.prost_reflect_growth.proofs.laws.sorted_grows.Goals as goal

pub returns : goal.returns
returns c = sorted_grows
