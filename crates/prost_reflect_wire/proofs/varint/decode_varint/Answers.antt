use Rattle.prost_reflect_wire.proofs.VarintFronts.{varint_only, varint_once, one_byte}
use Rattle.prost_reflect_wire.proofs.varint.decode_varint.Goals as goal

pub returns-in-Some-clause-ok : goal.returns-in-Some-clause-ok
returns-in-Some-clause-ok c = rw c.from.ensures (one_byte _ _ _ c.in-Some.ensures.cases.0 c.if-byte-lt128.true)

pub returns-in-Some-clause-only : goal.returns-in-Some-clause-only
returns-in-Some-clause-only c = λ value rest f. rw c.from.ensures (varint_once _ value _ _ rest (one_byte _ _ _ c.in-Some.ensures.cases.0 c.if-byte-lt128.true) f)

pub returns-in_default-clause-only : goal.returns-in_default-clause-only
returns-in_default-clause-only c = varint_only c.decode_steps.result c.args.bytes.now c.decode_steps.ensures.ok c.decode_steps.ensures.fault
