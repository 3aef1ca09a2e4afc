use Rattle.prost_reflect_dynamic.proofs.Common.{scalar_of, value_of}
use Rattle.prost_reflect_dynamic.proofs.ScalarRefs.{scalar_seen, scalar_there}
use Rattle.prost_reflect_dynamic.proofs.value.Value.scalar.Goals as goal

pub returns : goal.returns
returns c = scalar_seen (value_of c.args.self.now) (scalar_of c.in-Some.scalar) c.in-Some.ensures

pub unreachable-requires : goal.unreachable-requires
unreachable-requires c = scalar_there (value_of c.args.self.now) c.in-None.ensures c.requires
