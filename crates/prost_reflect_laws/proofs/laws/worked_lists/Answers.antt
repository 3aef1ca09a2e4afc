use Rattle.prost_reflect_laws.proofs.Examples.Computed.{lists}
use Rattle.prost_reflect_laws.proofs.laws.worked_lists.Goals as goal

pub returns : goal.returns
returns c = lists
