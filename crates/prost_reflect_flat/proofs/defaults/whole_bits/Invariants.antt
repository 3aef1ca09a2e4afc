use Rattle.std.proofs.Common.{◌≡◌, ◌*◌, ◌^◌, ◌<◌, ◌≤◌}
use Rattle.prost_reflect_flat.proofs.defaults.whole_bits.Given as goal

abbrev pub decreases-loop-significand : goal.decreases-loop-significand
decreases-loop-significand l = l.exponent

abbrev pub invariant-loop-significand : goal.invariant-loop-significand
invariant-loop-significand l = record {
  scaled : l.significand * 2 ^ l.exponent ≡ l.number * 2 ^ l.fraction_bits;
  some : 0 < l.significand;
  small : l.significand < 2 * 2 ^ l.fraction_bits;
  low : l.exponent ≤ l.fraction_bits;
}
