use Rattle.std.specs.Prelude.{◌≡◌}
use Rattle.prost_reflect_dynamic.proofs.Common.{length, items_left, present_left}
use Rattle.prost_reflect_dynamic.proofs.message.lists.present_items.PresentItemsIterator.next.Given as goal

-- nothing is lost, and nothing given twice
abbrev pub invariant-loop-self : goal.invariant-loop-self
invariant-loop-self l = record {
  left : present_left l.self ≡ present_left l.initial.self;
  message_type : l.self.message_type ≡ l.initial.self.message_type;
}

abbrev pub decreases-loop-self : goal.decreases-loop-self
decreases-loop-self l = length (items_left l.self.slots)
