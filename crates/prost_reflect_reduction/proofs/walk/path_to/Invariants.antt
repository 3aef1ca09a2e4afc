use Rattle.std.specs.Prelude.{◌≡◌, ◌<◌, ◌∷◌}
use Rattle.prost_reflect_reduction.proofs.Common.{[], length, get_or, reverse, Schema, TypePairs, pair_at, AreSources}
use Rattle.prost_reflect_reduction.proofs.walk.path_to.Given as goal

abbrev pub invariant-loop-at : goal.invariant-loop-at
invariant-loop-at l = record {
  within : l.at < length l.sources;
  leads : (older newer : Schema) (pairs : TypePairs) → AreSources older newer pairs l.sources → pair_at older newer (get_or pairs l.at (0, 0)) (reverse l.path.items) ≡ get_or pairs l.place (0, 0) ∷ [];
}

abbrev pub decreases-loop-at : goal.decreases-loop-at
decreases-loop-at l = l.at
