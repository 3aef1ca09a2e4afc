use Rattle.prost_reflect_wire.proofs.Common.{rules, Fix64, PlainFront}
use Rattle.prost_reflect_wire.proofs.PlainFronts.{fix64_once}
use Rattle.prost_reflect_wire.proofs.payload.decode_fixed64.Goals as goal

pub returns-in-Some-clause-only : goal.returns-in-Some-clause-only
returns-in-Some-clause-only c = λ eight rest f.
    let read : PlainFront (Fix64 c.in-Some.eight.now) c.args.bytes.now c.in-Some.rest.now = search rules in
    fix64_once _ eight _ _ rest read f
