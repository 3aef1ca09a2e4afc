use Rattle.std.specs.Prelude.{◌<◌, ◌+◌, ◌-◌, ◌*◌}
use Rattle.prost_reflect_flat.proofs.Common.{get_or, sym, ap, ◌∙◌, arith, up_to}
use Rattle.prost_reflect_flat.proofs.WholeNumbers.{digit_past, from_start}
use Rattle.prost_reflect_flat.proofs.defaults.whole_number.Goals as goal
use Rattle.prost_reflect_flat.proofs.defaults.whole_number.Goals.{then-number-limit-via-then-number-limit, then-number-limit-via-else-number-limit+then-digit-limit}

pub returns-then-number-limit-clause-value : goal.returns-then-number-limit-clause-value
returns-then-number-limit-clause-value c =
    let text = c.args.text.now in
    let i = c.loop-byte.byte-index in
    let past : c.args.limit < 10 * c.loop-byte.number + (get_or text i 0 - 48) = elim c.then-number-limit.branch [
      | then-number-limit-via-then-number-limit w ↦ omega arith
      | then-number-limit-via-else-number-limit+then-digit-limit w ↦ omega arith
    ] in
    sym (ap (up_to c.args.limit) (from_start text i c.loop-byte-test.true ∙ c.loop-byte.invariant.left) ∙ digit_past c.args.limit c.loop-byte.number i text c.loop-byte-test.true past)
