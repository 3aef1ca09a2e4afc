use Rattle.prost_reflect_maps.proofs.Common.{ℕ, List, Option, sym, ap, ◌∙◌, held_items}
use Rattle.prost_reflect_maps.proofs.Places.{empty_ascends}
use Rattle.prost_reflect_maps.proofs.sorted_map.SortedMap.iter.Goals as goal

pub returns-in-Empty-clause-ascending : goal.returns-in-Empty-clause-ascending
returns-in-Empty-clause-ascending g c = empty_ascends c.args.self.now.0 (ap (λ (held : List (ℕ × g.row.T.Denot) × Option (List (ℕ × ℕ))). held.0) (sym c.self.view_is ∙ ap held_items c.in-Empty.is))
