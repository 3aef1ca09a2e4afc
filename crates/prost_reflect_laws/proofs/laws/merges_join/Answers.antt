use Rattle.prost_reflect_laws.proofs.StepsFree.{merges_join}
use Rattle.prost_reflect_laws.proofs.laws.merges_join.Goals as goal

pub returns : goal.returns
returns c = merges_join
