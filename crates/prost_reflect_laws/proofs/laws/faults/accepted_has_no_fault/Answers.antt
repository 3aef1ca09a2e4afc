use Rattle.prost_reflect_laws.proofs.FaultLaws.{accepted_has_no_fault}
use Rattle.prost_reflect_laws.proofs.laws.faults.accepted_has_no_fault.Goals as goal

pub returns : goal.returns
returns c = accepted_has_no_fault
