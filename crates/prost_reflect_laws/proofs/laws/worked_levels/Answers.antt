use Rattle.prost_reflect_laws.proofs.Examples.ComputedDeeper.{levels, content_levels}
use Rattle.prost_reflect_laws.proofs.laws.worked_levels.Goals as goal

pub returns : goal.returns
returns c = record { levels = levels; content_levels = content_levels }
