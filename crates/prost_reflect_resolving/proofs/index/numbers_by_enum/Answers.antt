use Rattle.prost_reflect_resolving.proofs.EnumNumbers.{numbers_more}
use Rattle.prost_reflect_resolving.proofs.index.numbers_by_enum.Goals as goal

pub loop-declared-preserved : goal.loop-declared-preserved
loop-declared-preserved c =
    rw c.in_ok-push.ensures.items
    (numbers_more c.loop-declared.numbers.items c.in_ok-numbers_by_name.field-0 c.args.enums.now c.loop-declared.declared-index c.declared-item.result c.loop-declared-test.true c.declared-item.is
    c.loop-declared.invariant (rw (← c.as_slice.ensures.value) c.in_ok-numbers_by_name.ensures))
