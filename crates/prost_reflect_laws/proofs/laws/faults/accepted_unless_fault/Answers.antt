use Rattle.prost_reflect_laws.proofs.FaultLaws.{accepted_unless_fault}
use Rattle.prost_reflect_laws.proofs.laws.faults.accepted_unless_fault.Goals as goal

pub returns : goal.returns
returns c = accepted_unless_fault
