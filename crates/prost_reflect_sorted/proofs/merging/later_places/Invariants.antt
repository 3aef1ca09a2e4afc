use Rattle.std.specs.Prelude.{◌≡◌, ◌+◌, ◌++◌}
use Rattle.prost_reflect_sorted.proofs.Common.{ℕ, map, drop}
use Rattle.prost_reflect_sorted.proofs.merging.later_places.Given as goal

abbrev pub invariant-loop-place : goal.invariant-loop-place
invariant-loop-place l = l.later.items ++ map (λ (i : ℕ). l.count + i) (drop l.place-index l.places) ≡ map (λ (i : ℕ). l.count + i) l.places
