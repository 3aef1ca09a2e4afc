use Rattle.prost_reflect_dynamic.proofs.Common.{scalar_of, value_of}
use Rattle.prost_reflect_dynamic.proofs.ScalarRefs.{scalar_tested}
use Rattle.prost_reflect_dynamic.proofs.value.defaults.is_scalar.Goals as goal

pub returns-in-Some : goal.returns-in-Some
returns-in-Some c = scalar_tested (value_of c.args.value.now) (scalar_of c.in-Some.own) (scalar_of c.args.scalar) c.equals.result c.in-Some.ensures c.equals.ensures
