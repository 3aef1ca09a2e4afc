use Rattle.prost_reflect_laws.proofs.WorkedReductions.{worked_reductions}
use Rattle.prost_reflect_laws.proofs.passage.worked_reductions.Goals as goal

pub returns : goal.returns
returns c = worked_reductions
