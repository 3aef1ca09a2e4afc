use Rattle.prost_reflect_laws.proofs.Commuting.{commute}
use Rattle.prost_reflect_laws.proofs.laws.commute.Goals as goal

pub returns : goal.returns
returns c = commute
