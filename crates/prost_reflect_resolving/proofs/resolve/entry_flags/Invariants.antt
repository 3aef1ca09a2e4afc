use Rattle.std.specs.Prelude.{◌≡◌, ◌++◌}
use Rattle.prost_reflect_resolving.proofs.Common.{map, drop, is_entry, message_row}
use Rattle.prost_reflect_resolving.proofs.resolve.entry_flags.Given as goal

abbrev pub invariant-loop-message : goal.invariant-loop-message
invariant-loop-message l = l.flags.items ++ map is_entry (map message_row (drop l.message-index l.messages)) ≡ map is_entry (map message_row l.messages)
