use Rattle.std.specs.Prelude.{◌≡◌, ◌+◌}
use Rattle.prost_reflect_flat.proofs.Common.{map, drop, length, message_at, all_from, with_given, scope_row, flat_rows}
use Rattle.prost_reflect_flat.proofs.flatten.+add_message.Given as goal

abbrev pub invariant-loop-place : goal.invariant-loop-place
invariant-loop-place l =
    (with_given (flat_rows l.flat) (all_from (map message_at (drop l.place l.nested-items)) (scope_row l.within) 3 l.place (l.fn.flat.before + length l.flat.messages.items))
    ≡ with_given (flat_rows l.initial.flat) (all_from (map message_at l.nested-items) (scope_row l.within) 3 0 (l.fn.flat.before + length l.initial.flat.messages.items)))
    × (l.flat.before ≡ l.fn.flat.before)
