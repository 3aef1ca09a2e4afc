use Rattle.std.specs.Prelude.{◌≡◌, ◌+◌}
use Rattle.prost_reflect_flat.proofs.Common.{map, drop, length, message_at, all_from, with_given, scope_row, flat_rows}
use Rattle.prost_reflect_flat.proofs.flatten.add_file.Given as goal

abbrev pub invariant-loop-place : goal.invariant-loop-place
invariant-loop-place l =
    (with_given (flat_rows l.flat) (all_from (map message_at (drop l.place l.message-items)) (scope_row l.scope) 4 l.place (l.fn.flat.before + length l.flat.messages.items))
    ≡ with_given (flat_rows l.fn.flat) (all_from (map message_at l.message-items) (scope_row l.scope) 4 0 (l.fn.flat.before + length l.fn.flat.messages.items)))
    × (l.flat.before ≡ l.fn.flat.before)
