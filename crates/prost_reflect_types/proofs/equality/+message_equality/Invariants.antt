use Rattle.std.specs.Prelude.{◌≡◌}
use Rattle.prost_reflect_types.proofs.Common.{map, take, of_message}
use Rattle.prost_reflect_types.proofs.equality.+message_equality.Given as goal

-- the messages so far are equal
abbrev pub invariant-equal_messages-loop-index : goal.invariant-equal_messages-loop-index
invariant-equal_messages-loop-index l = map of_message (take l.index l.a.items) ≡ map of_message (take l.index l.b.items)
