use Rattle.prost_reflect_laws.proofs.Refining.{reduced_is_test}
use Rattle.prost_reflect_laws.proofs.passage.reduced_is_test.Goals as goal

pub returns : goal.returns
returns c = reduced_is_test
