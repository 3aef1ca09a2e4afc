use Rattle.prost_reflect_laws.proofs.Examples.ComputedDeeper.{maps}
use Rattle.prost_reflect_laws.proofs.laws.worked_maps.Goals as goal

pub returns : goal.returns
returns c = maps
