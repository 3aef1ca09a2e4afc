use Rattle.std.specs.Prelude.{◌≡◌}
use Rattle.prost_reflect_growth.proofs.Common.{map}
use Rattle.prost_reflect_tables.specs.Indexing.{empty_lists}
use Rattle.prost_reflect_growth.proofs.belonging.empty_lists.Given as goal

abbrev pub invariant-loop : goal.invariant-loop
invariant-loop g l = map (λ xs. xs.items) l.lists.items ≡ empty_lists l.counter
