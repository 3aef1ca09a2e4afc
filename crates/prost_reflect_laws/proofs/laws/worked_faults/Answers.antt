use Rattle.prost_reflect_laws.proofs.Examples.Faults.{faults}
use Rattle.prost_reflect_laws.proofs.laws.worked_faults.Goals as goal

pub returns : goal.returns
returns c = faults
