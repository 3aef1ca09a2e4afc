use Rattle.prost_reflect_dynamic.proofs.PresentNumbers.{all_present}
use Rattle.prost_reflect_dynamic.proofs.message.DynamicMessage.present_numbers.Goals as goal

pub returns : goal.returns
returns c = all_present c.args.self.now _ c.loop-number.numbers.items c.slots-number-items.ensures.ascending c.in-None.ensures.steps.0 c.loop-number.invariant
