use Rattle.prost_reflect_laws.proofs.Accepted.{accepts_is_test}
use Rattle.prost_reflect_laws.proofs.laws.accepts_is_test.Goals as goal

pub returns : goal.returns
returns c = accepts_is_test
