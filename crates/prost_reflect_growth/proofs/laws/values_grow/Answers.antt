use Rattle.prost_reflect_growth.proofs.Merging.{values_grow}
use Rattle.prost_reflect_growth.proofs.laws.values_grow.Goals as goal

pub returns : goal.returns
returns c = values_grow
