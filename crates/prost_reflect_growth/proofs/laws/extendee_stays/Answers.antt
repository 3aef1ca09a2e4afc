use Rattle.prost_reflect_growth.proofs.Stays.{extendee_stays}
use Rattle.prost_reflect_growth.proofs.laws.extendee_stays.Goals as goal

pub returns : goal.returns
returns c = extendee_stays
