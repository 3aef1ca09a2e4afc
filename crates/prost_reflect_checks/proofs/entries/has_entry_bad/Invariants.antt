use Rattle.std.specs.Prelude.{◌≡◌}
use Rattle.prost_reflect_checks.proofs.Common.{map, drop, list_any, entry_bad, message_row}
use Rattle.prost_reflect_checks.proofs.entries.has_entry_bad.Given as goal

abbrev pub invariant-loop-place : goal.invariant-loop-place
invariant-loop-place l = list_any entry_bad (map message_row l.flat.messages.items) ≡ list_any entry_bad (map message_row (drop l.place l.flat.messages.items))
