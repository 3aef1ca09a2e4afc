use Rattle.std.specs.Prelude.{◌-◌, ◌≤◌}
use Rattle.prost_reflect_pool.proofs.Common.{length, ordering_index, Ordering, IsNonDecreasingBy}
use Rattle.prost_reflect_tables.specs.Walks.{Computes}
use Rattle.prost_reflect_pool.proofs.Searching.{Between}
use Rattle.prost_reflect_pool.proofs.lookup.first_equal.Given as goal

abbrev pub invariant-loop-low : goal.invariant-loop-low
invariant-loop-low g l = record {
  low : l.low ≤ l.high;
  high : l.high ≤ length l.places;
  between : (o : _ → Ordering) → Computes g.C.Fn l.compare o → IsNonDecreasingBy (λ p. ordering_index (o p)) l.places → Between o l.places l.low l.high;
}

abbrev pub decreases-loop-low : goal.decreases-loop-low
decreases-loop-low g l = l.high - l.low
