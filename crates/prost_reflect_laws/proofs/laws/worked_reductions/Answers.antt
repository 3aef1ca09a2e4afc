use Rattle.prost_reflect_laws.proofs.Examples.ComputedReductions.{reductions, passing}
use Rattle.prost_reflect_laws.proofs.Examples.NotReduced.{no_reductions}
use Rattle.prost_reflect_laws.proofs.laws.worked_reductions.Goals as goal

pub returns : goal.returns
returns c = record { reductions = reductions; no_reductions = no_reductions; passing = passing }
