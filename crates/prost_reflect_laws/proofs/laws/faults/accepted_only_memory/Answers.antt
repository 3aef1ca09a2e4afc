use Rattle.prost_reflect_laws.proofs.FaultLaws.{accepted_only_memory}
use Rattle.prost_reflect_laws.proofs.laws.faults.accepted_only_memory.Goals as goal

pub returns : goal.returns
returns c = accepted_only_memory
