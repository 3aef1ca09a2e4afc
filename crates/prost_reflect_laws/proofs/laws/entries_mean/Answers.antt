use Rattle.prost_reflect_laws.proofs.Back.{entries_mean}
use Rattle.prost_reflect_laws.proofs.laws.entries_mean.Goals as goal

pub returns : goal.returns
returns c = entries_mean
