use Rattle.prost_reflect_dynamic.proofs.Common.{arith, into_iter_items, known_of}
use Rattle.prost_reflect_dynamic.proofs.ValueLists.{all_paired}
use Rattle.prost_reflect_dynamic.proofs.message.lists.taking.paired.Goals as goal

pub returns : goal.returns
returns g c =
    all_paired (into_iter_items c.loop-number.descriptors) (known_of c.args.message_type.now) (into_iter_items c.loop-number.number-iterator) c.loop-number.pairs.items _
    (omega (arith, c.loop-number.number-iterator.rest.ok.0, c.in-None.ensures.steps.0)) c.loop-number.invariant.pairs
