use Rattle.prost_reflect_growth.proofs.NumbersKnown.{numbers_known}
use Rattle.prost_reflect_growth.proofs.laws.numbers_known.Goals as goal

pub returns : goal.returns
returns c = numbers_known
