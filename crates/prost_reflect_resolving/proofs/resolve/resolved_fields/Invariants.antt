use Rattle.std.specs.Prelude.{◌≡◌, ◌++◌}
use Rattle.prost_reflect_resolving.proofs.Common.{drop, map, message_row, flat_rows, all_rows, links_of, resolve, resolved_lists}
use Rattle.prost_reflect_resolving.proofs.resolve.resolved_fields.Given as goal

abbrev pub invariant-loop-message : goal.invariant-loop-message
invariant-loop-message l =
    resolved_lists l.lists.items ++ map (λ m. map (resolve (links_of (all_rows l.index.base (flat_rows l.flat)))) m.fields) (map message_row (drop l.message-index l.messages))
    ≡ map (λ m. map (resolve (links_of (all_rows l.index.base (flat_rows l.flat)))) m.fields) (map message_row l.messages)
