use Rattle.std.specs.Prelude.{◌≡◌, ◌++◌}
use Rattle.prost_reflect_growth.proofs.Common.{true, drop, places_from, all_places}
use Rattle.prost_reflect_growth.proofs.order.all_places.Given as goal

abbrev pub invariant-loop-place : goal.invariant-loop-place
invariant-loop-place g l = l.places.items ++ places_from (λ x. true) l.place (drop l.place l.items) ≡ all_places l.items
