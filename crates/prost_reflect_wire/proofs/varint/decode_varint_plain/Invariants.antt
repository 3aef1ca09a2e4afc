use Rattle.prost_reflect_wire.proofs.VarintDigits.{Digits}
use Rattle.prost_reflect_wire.proofs.varint.decode_varint_plain.Given as goal

abbrev pub invariant-loop-place : goal.invariant-loop-place
invariant-loop-place l = Digits l.bytes l.place l.value l.scale
