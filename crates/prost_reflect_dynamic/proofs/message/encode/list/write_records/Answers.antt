use Rattle.std.specs.Prelude.{◌-◌}
use Rattle.prost_reflect_dynamic.proofs.Common.{arith, TakesScalar, value_of}
use Rattle.prost_reflect_dynamic.proofs.ScalarRefs.{takes_scalar}
use Rattle.prost_reflect_dynamic.proofs.WrittenLists.{holds_at}
use Rattle.prost_reflect_dynamic.proofs.message.encode.list.write_records.Goals as goal

pub scalar-requires : goal.scalar-requires
scalar-requires g c = takes_scalar c.args.kind (value_of c.index-values-index.result) (holds_at (λ v. TakesScalar c.args.kind (value_of v)) c.args.values.now (c.loop-index.index - 1) c.index-values-index.result (omega arith) c.index-values-index.is c.requires)
