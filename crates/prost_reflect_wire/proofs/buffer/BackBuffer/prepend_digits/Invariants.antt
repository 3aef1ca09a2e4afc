use Rattle.std.specs.Prelude.{◌≡◌, ◌+◌, ◌++◌}
use Rattle.prost_reflect_wire.proofs.Common.{length, take, short}
use Rattle.prost_reflect_wire.proofs.buffer.BackBuffer.prepend_digits.Given as goal

-- the digits so far and those of the rest are those of the value
abbrev pub invariant-loop-rest : goal.invariant-loop-rest
invariant-loop-rest l = record {
  digits : take l.len l.digits ++ short l.rest ≡ short l.value;
  count : l.len + length (short l.rest) ≡ length (short l.value);
  room : length l.digits ≡ 10;
}

abbrev pub decreases-loop-rest : goal.decreases-loop-rest
decreases-loop-rest l = l.rest
