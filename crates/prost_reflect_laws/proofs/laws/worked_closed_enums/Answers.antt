use Rattle.prost_reflect_laws.proofs.Examples.ComputedDeeper.{strays, stray_contents}
use Rattle.prost_reflect_laws.proofs.laws.worked_closed_enums.Goals as goal

pub returns : goal.returns
returns c = record { strays = strays; stray_contents = stray_contents }
