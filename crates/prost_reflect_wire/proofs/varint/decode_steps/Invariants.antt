use Rattle.prost_reflect_wire.proofs.VarintDigits.{Digits}
use Rattle.prost_reflect_wire.proofs.varint.decode_steps.Given as goal

abbrev pub invariant-loop-index : goal.invariant-loop-index
invariant-loop-index l = Digits l.bytes l.index l.value l.scale
