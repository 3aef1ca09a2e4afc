use Rattle.prost_reflect_dynamic.proofs.Common.{rules}
use Rattle.prost_reflect_dynamic.proofs.PresentWalks.{value_given}
use Rattle.prost_reflect_dynamic.proofs.message.lists.present_items.PresentItemsIterator.next.Goals as goal

pub returns-in-Some-clause-steps : goal.returns-in-Some-clause-steps
returns-in-Some-clause-steps c = (
  value_given c.args.self.now.message_type.now c.loop-self.self.message_type.now c.loop-self.self.unknown c.unknown_of-self.result c.in_ok-slot.slot.now _ _ _ c.in-Some.present (search rules) (search rules)
      c.in_ok-slot.ensures.steps c.unknown_of-self.ensures c.loop-self.invariant.left c.in-Some.ensures,
  c.loop-self.invariant.message_type,
)
