use Rattle.prost_reflect_wire.proofs.Common.{rules, Fix32, PlainFront}
use Rattle.prost_reflect_wire.proofs.PlainFronts.{fix32_once}
use Rattle.prost_reflect_wire.proofs.payload.decode_fixed32.Goals as goal

pub returns-in-Some-clause-only : goal.returns-in-Some-clause-only
returns-in-Some-clause-only c = λ four rest f.
    let read : PlainFront (Fix32 c.in-Some.four.now) c.args.bytes.now c.in-Some.rest.now = search rules in
    fix32_once _ four _ _ rest read f
