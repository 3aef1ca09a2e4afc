use Rattle.prost_reflect_maps.proofs.Common.{ℕ, List, Option, subst, IsAscending}
use Rattle.prost_reflect_maps.proofs.RunPlaces.{flat_ascends}
use Rattle.prost_reflect_maps.proofs.runs.RunMap.move_items.Goals as goal

pub returns-clause-ascending : goal.returns-clause-ascending
returns-clause-ascending g c = subst (λ (held : List (ℕ × g.row.T.Denot) × Option (List (ℕ × ℕ))). IsAscending held.0) c.self.view_is (flat_ascends c.self.inside.runs.items c.self.invariant)
