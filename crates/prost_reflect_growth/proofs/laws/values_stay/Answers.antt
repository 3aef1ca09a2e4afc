use Rattle.prost_reflect_growth.proofs.Merging.{values_stay}
use Rattle.prost_reflect_growth.proofs.laws.values_stay.Goals as goal

pub returns : goal.returns
returns c = values_stay
