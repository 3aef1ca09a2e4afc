use Rattle.prost_reflect_growth.proofs.Stays.{field_stays}
use Rattle.prost_reflect_growth.proofs.laws.field_stays.Goals as goal

pub returns : goal.returns
returns c = field_stays
