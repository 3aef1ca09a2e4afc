use Rattle.prost_reflect_maps.proofs.Common.{ℕ, List, Option, subst, IsAscending}
use Rattle.prost_reflect_maps.proofs.RunPlaces.{flat_ascends}
use Rattle.prost_reflect_maps.proofs.runs.RunMap.ascends.Goals as goal

pub returns : goal.returns
returns g c = subst (λ (held : List (ℕ × g.row.T.Denot) × Option (List (ℕ × ℕ))). IsAscending held.0) c.self.view_is (flat_ascends c.self.inside.runs.items c.self.invariant)
