use Rattle.prost_reflect_dynamic.proofs.Common.{scalar_of, key_of}
use Rattle.prost_reflect_dynamic.specs.NamedDefaults.{default_named}
use Rattle.prost_reflect_dynamic.proofs.ScalarRefs.{key_tested}
use Rattle.prost_reflect_dynamic.proofs.value.MapKey.is_default.Goals as goal

pub returns-in_default : goal.returns-in_default
returns-in_default c = key_tested (key_of c.args.self.now) (scalar_of c.as_scalar.result) (scalar_of c.scalar_default.result) (default_named c.args.kind.now) c.equals.result c.as_scalar.ensures c.scalar_default.ensures.default c.equals.ensures
