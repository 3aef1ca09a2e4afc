use Rattle.std.specs.Prelude.{◌≡◌, ◌<◌, ◌+◌, ◌%◌, ◌++◌, ◌∷◌}
use Rattle.prost_reflect_wire.proofs.Common.{[], List, ℕ, length, take, set, refl, sym, ap, ◌∙◌, subst, append_assoc, arith, add-one, length-set, length-take-le, take-suc-set, bytes_of, Prepended, short}
use Rattle.prost_reflect_wire.proofs.ShortDigits.{short_up, short_low, length_short}
use Rattle.prost_reflect_wire.proofs.buffer.BackBuffer.prepend_digits.Goals as goal

-- a digit more
take_put : (l : List ℕ) (i v : ℕ) → i < length l → take (i + 1) (set l i v) ≡ take i l ++ v ∷ []
take_put l i v lt = rw add-one (take-suc-set l i v lt)

pub bounds-digits-len : goal.bounds-digits-len
bounds-digits-len c = omega (arith, length_short c.args.value (omega arith), c.loop-rest.invariant.count, ap length (short_up c.loop-rest.rest (omega arith) (omega (arith, c.loop-rest.auto.rest-fits))))

pub bounds-digits-len-2 : goal.bounds-digits-len-2
bounds-digits-len-2 c = omega (arith, length_short c.args.value (omega arith), c.loop-rest.invariant.count, ap length (short_low c.loop-rest.rest (omega arith)))

pub loop-rest-preserved : goal.loop-rest-preserved
loop-rest-preserved c = let was = c.loop-rest.invariant in
    let up = short_up c.loop-rest.rest (omega arith) (omega (arith, c.loop-rest.auto.rest-fits)) in
    let lt : c.loop-rest.len < length c.loop-rest.digits = omega (arith, length_short c.args.value (omega arith), was.count, was.room, ap length up) in record {
      digits = rw (take_put c.loop-rest.digits c.loop-rest.len (128 + c.loop-rest.rest % 128) lt, append_assoc, ← was.digits, up) refl;
      count = omega (arith, was.count, ap length up);
      room = length-set _ _ _ ∙ was.room;
    }

pub slice_bounds-digits-end : goal.slice_bounds-digits-end
slice_bounds-digits-end c = omega (arith, length-set c.loop-rest.digits c.loop-rest.len c.loop-rest.rest, c.loop-rest.invariant.room, length_short c.args.value (omega arith), c.loop-rest.invariant.count, ap length (short_low c.loop-rest.rest (omega arith)))

pub slice_bounds-prepend-end : goal.slice_bounds-prepend-end
slice_bounds-prepend-end c = sym (length-take-le (c.loop-rest.len + 1) (set c.loop-rest.digits c.loop-rest.len c.loop-rest.rest)
    (omega (arith, length-set c.loop-rest.digits c.loop-rest.len c.loop-rest.rest, c.loop-rest.invariant.room, length_short c.args.value (omega arith), c.loop-rest.invariant.count, ap length (short_low c.loop-rest.rest (omega arith)))))

pub returns-clause-ok : goal.returns-clause-ok
returns-clause-ok c = let was = c.loop-rest.invariant in
    let low = short_low c.loop-rest.rest (omega arith) in
    let lt : c.loop-rest.len < length c.loop-rest.digits = omega (arith, length_short c.args.value (omega arith), was.count, was.room, ap length low) in
    let all : take (c.loop-rest.len + 1) (set c.loop-rest.digits c.loop-rest.len c.loop-rest.rest) ≡ short c.args.value =
    take_put c.loop-rest.digits c.loop-rest.len c.loop-rest.rest lt ∙ ap (λ (t : List ℕ). take c.loop-rest.len c.loop-rest.digits ++ t) (sym low) ∙ was.digits in
    subst (λ (t : List ℕ). Prepended c.prepend.result (bytes_of c.args.self.now) (bytes_of c.prepend.new.self) t) all c.prepend.ensures.ok
