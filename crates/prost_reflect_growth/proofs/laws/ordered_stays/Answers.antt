use Rattle.prost_reflect_growth.proofs.Merging.{ordered_stays}
use Rattle.prost_reflect_growth.proofs.laws.ordered_stays.Goals as goal

pub returns : goal.returns
returns c = ordered_stays
