use Rattle.std.proofs.Common.{refl}
use Rattle.prost_reflect_laws.proofs.FaultLaws.{memory_never_stands}
use Rattle.prost_reflect_laws.proofs.laws.faults.memory_never_stands.Goals as goal

pub returns : goal.returns
returns c = λ schema place stands. memory_never_stands schema stands refl
