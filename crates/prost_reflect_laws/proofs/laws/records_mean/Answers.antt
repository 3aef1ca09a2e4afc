use Rattle.prost_reflect_laws.proofs.Means.{records_mean}
use Rattle.prost_reflect_laws.proofs.laws.records_mean.Goals as goal

pub returns : goal.returns
returns c = records_mean
