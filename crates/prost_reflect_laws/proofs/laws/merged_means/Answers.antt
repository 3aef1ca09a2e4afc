use Rattle.prost_reflect_laws.proofs.Pieces.{merged_means}
use Rattle.prost_reflect_laws.proofs.laws.merged_means.Goals as goal

pub returns : goal.returns
returns c = merged_means
