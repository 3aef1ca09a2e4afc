use Rattle.std.specs.Prelude.{◌≤◌}
use Rattle.prost_reflect_flat.proofs.Common.{length, ap, sym, ◌∙◌, arith, front}
use Rattle.prost_reflect_flat.proofs.Escapes.{front_shorter, first_byte, no_byte, no_text}
use Rattle.prost_reflect_flat.proofs.defaults.unescaped.Goals as goal

pub loop-first-smaller : goal.loop-first-smaller
loop-first-smaller c =
    let byte = c.in-Some-front_byte in
    let shorter : length byte.follows.now ≤ length c.in-Some.behind.now = front_shorter c.in-Some.first.now c.in-Some.behind.now (front byte.byte byte.follows.now) (sym byte.ensures) in
    omega (arith, ap length c.in-Some.ensures.cases.0)

pub loop-first-preserved : goal.loop-first-preserved
loop-first-preserved c =
    let byte = c.in-Some-front_byte in
    let step = first_byte c.loop-first.bytes.items c.loop-first.rest.now c.in-Some.behind.now c.in-Some.first.now (front byte.byte byte.follows.now) c.in-Some.ensures.cases.0 (sym byte.ensures) in
    rw c.in_ok-push-in-Some-front_byte.ensures.items (sym step ∙ c.loop-first.invariant)

pub returns-in-None : goal.returns-in-None
returns-in-None c =
    sym (no_byte c.loop-first.bytes.items c.loop-first.rest.now c.in-Some.behind.now c.in-Some.first.now c.in-Some.ensures.cases.0 (sym c.in-None.ensures)) ∙ c.loop-first.invariant

pub returns : goal.returns
returns c = sym (no_text c.loop-first.bytes.items c.loop-first.rest.now c.in_default.ensures.cases) ∙ c.loop-first.invariant
