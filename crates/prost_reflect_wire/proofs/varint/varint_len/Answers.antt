use Rattle.std.proofs.Common.{length, ap, arith}
use Rattle.prost_reflect_wire.proofs.ShortDigits.{short_up, short_low, length_short}
use Rattle.prost_reflect_wire.proofs.varint.varint_len.Goals as goal

pub overflow_add-len : goal.overflow_add-len
overflow_add-len c = omega (arith, length_short c.args.value (omega arith))

pub loop-rest-preserved : goal.loop-rest-preserved
loop-rest-preserved c = omega (arith, ap length (short_up c.loop-rest.rest (omega arith) (omega (arith, c.loop-rest.auto.rest-fits))))

pub returns-clause-len : goal.returns-clause-len
returns-clause-len c = omega (arith, ap length (short_low c.loop-rest.rest (omega arith)))

pub returns-clause-few : goal.returns-clause-few
returns-clause-few c = omega (arith, length_short c.args.value (omega arith), ap length (short_low c.loop-rest.rest (omega arith)))
