use Rattle.std.proofs.Common.{◌<◌, ◌+◌, ◌*◌, ◌^◌, ap, ◌∙◌, arith}
use Rattle.prost_reflect_flat.proofs.WholeBits.{power_fits, product_fits, double_one, halved, exponent_left, normal_bits}
use Rattle.prost_reflect_flat.proofs.defaults.whole_bits.Goals as goal

pub overflow_mul-one : goal.overflow_mul-one
overflow_mul-one c = omega (arith, power_fits c.args.fraction_bits c.requires.width)

pub overflow_mul-result : goal.overflow_mul-result
overflow_mul-result c = rw c.power_of_two-one.ensures (omega (arith, product_fits (c.args.fraction_bits + 1 + c.args.bias) c.args.fraction_bits (omega arith) c.requires.width))

pub returns-then-number-one-clause-value : goal.returns-then-number-one-clause-value
returns-then-number-one-clause-value c = rw c.power_of_two-one.ensures (double_one c.args.fraction_bits c.args.bias c.args.number (c.if-number-one.true ∙ ap (λ x. 2 * x) c.power_of_two-one.ensures))

pub loop-significand-preserved : goal.loop-significand-preserved
loop-significand-preserved c =
    let invariant = c.loop-significand.invariant in
    let left : 0 < c.loop-significand.exponent = exponent_left c.loop-significand.significand c.loop-significand.exponent c.args.number (2 ^ c.args.fraction_bits) invariant.scaled (omega arith) (omega arith) in
    record {
      scaled = halved c.loop-significand.significand c.loop-significand.exponent _ invariant.scaled left;
      some = omega arith;
      small = omega arith;
      low = omega arith;
    }

pub overflow_mul-result-2 : goal.overflow_mul-result-2
overflow_mul-result-2 c = rw c.power_of_two-one.ensures (omega (arith, product_fits (c.loop-significand.exponent + c.args.bias) c.args.fraction_bits (omega arith) c.requires.width))

pub overflow_add-result-3 : goal.overflow_add-result-3
overflow_add-result-3 c = rw c.power_of_two-one.ensures (omega (arith, power_fits c.args.fraction_bits c.requires.width, product_fits (c.loop-significand.exponent + c.args.bias) c.args.fraction_bits (omega arith) c.requires.width))

pub returns-clause-value : goal.returns-clause-value
returns-clause-value c =
    rw c.power_of_two-one.ensures (normal_bits c.args.fraction_bits c.args.bias c.args.number c.loop-significand.significand c.loop-significand.exponent c.loop-significand.invariant.scaled (omega arith) c.loop-significand.invariant.small c.loop-significand.invariant.low)
