use Rattle.prost_reflect_growth.proofs.Untouched.{untouched_stays}
use Rattle.prost_reflect_growth.proofs.laws.untouched_stays.Goals as goal

pub returns : goal.returns
returns c = untouched_stays
