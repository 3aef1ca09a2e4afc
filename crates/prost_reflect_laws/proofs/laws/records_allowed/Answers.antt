use Rattle.prost_reflect_laws.proofs.RoundTrip.{records_allowed}
use Rattle.prost_reflect_laws.proofs.laws.records_allowed.Goals as goal

pub returns : goal.returns
returns c = records_allowed
