use Rattle.prost_reflect_wire.proofs.Steps.{same_behind}
use Rattle.prost_reflect_laws.proofs.laws.same_behind.Goals as goal

pub returns : goal.returns
returns c = same_behind
