use Rattle.std.specs.Prelude.{◌≡◌}
use Rattle.prost_reflect_types.proofs.Common.{map, take, of_message}
use Rattle.prost_reflect_types.proofs.copy.+message_copy.Given as goal

-- the copies so far are those of the messages so far
abbrev pub invariant-copy_messages-loop-message : goal.invariant-copy_messages-loop-message
invariant-copy_messages-loop-message l = map of_message l.copied.items ≡ map of_message (take l.message-index l.message-items)
