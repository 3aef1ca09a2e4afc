use Rattle.std.specs.Prelude.{◌≡◌}
use Rattle.prost_reflect_dynamic.proofs.Common.{length, items_left, values_left}
use Rattle.prost_reflect_dynamic.proofs.message.lists.had.HadValues.next_had.Given as goal

-- the slots so far have nothing
abbrev pub invariant-loop-slot : goal.invariant-loop-slot
invariant-loop-slot l = record {
  left : values_left l.of_extensions l.self ≡ values_left l.of_extensions l.initial.self;
  message_type : l.self.message_type ≡ l.initial.self.message_type;
}

abbrev pub decreases-loop-slot : goal.decreases-loop-slot
decreases-loop-slot l = length (items_left l.self.slots)
