use Rattle.std.specs.Prelude.{◌≡◌, ◌≤◌}
use Rattle.prost_reflect_flat.proofs.Common.{drop, digits_from}
use Rattle.prost_reflect_flat.proofs.defaults.whole_number.Given as goal

abbrev pub invariant-loop-byte : goal.invariant-loop-byte
invariant-loop-byte l = record {
  small : l.number ≤ l.limit;
  left : digits_from 0 l.text ≡ digits_from l.number (drop l.byte-index l.text);
}
