use Rattle.std.specs.Prelude.{◌≡◌, ◌++◌}
use Rattle.prost_reflect_sorted.proofs.Common.{ℕ, true, map, drop, places_from, pairs_at}
use Rattle.prost_reflect_sorted.proofs.values.add_pairs.Given as goal

abbrev pub invariant-loop-place : goal.invariant-loop-place
invariant-loop-place g l = l.pairs.items ++ map (λ (place : ℕ). (l.list, place)) (places_from (λ x. true) l.place (drop l.place l.items)) ≡ l.fn.pairs.items ++ pairs_at l.list l.items
