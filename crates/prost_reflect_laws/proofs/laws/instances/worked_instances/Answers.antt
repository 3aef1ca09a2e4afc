use Rattle.prost_reflect_laws.proofs.Examples.Instances.{of_reading, of_meaning, of_contents, of_writing, of_faults}
use Rattle.prost_reflect_laws.proofs.Examples.ReadBack.{of_reading_back}
use Rattle.prost_reflect_laws.proofs.Examples.PremisesOfPassage.{of_passages, of_fields}
use Rattle.prost_reflect_laws.proofs.laws.instances.worked_instances.Goals as goal

pub returns : goal.returns
returns c = record { reading = of_reading; meaning = of_meaning; contents = of_contents; writing = of_writing; faults = of_faults; reading_back = of_reading_back; passages = of_passages; fields = of_fields }
