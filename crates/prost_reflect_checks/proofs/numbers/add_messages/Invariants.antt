use Rattle.std.specs.Prelude.{◌≡◌, ◌+◌, ◌++◌}
use Rattle.prost_reflect_checks.proofs.Common.{map, drop, numbered_in, message_row, numbered_list}
use Rattle.prost_reflect_checks.proofs.numbers.add_messages.Given as goal

abbrev pub invariant-loop-offset : goal.invariant-loop-offset
invariant-loop-offset l =
    numbered_list l.numbers.items ++ numbered_in (l.first + l.offset) (map message_row (drop l.offset l.messages))
    ≡ numbered_list l.fn.numbers.items ++ numbered_in l.first (map message_row l.messages)
