use Rattle.std.specs.Prelude.{◌≡◌, ◌+◌}
use Rattle.prost_reflect_wire.proofs.Common.{length, short}
use Rattle.prost_reflect_wire.proofs.varint.varint_len.Given as goal

abbrev pub invariant-loop-rest : goal.invariant-loop-rest
invariant-loop-rest l = l.len + length (short l.rest) ≡ 1 + length (short l.value)

abbrev pub decreases-loop-rest : goal.decreases-loop-rest
decreases-loop-rest l = l.rest
