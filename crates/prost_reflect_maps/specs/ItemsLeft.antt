-- What the walks over a map from numbers have left.
use Rattle.std.specs.Prelude.{ℕ, List, ◌++◌}
use Rattle.prost_reflect_maps.specs.Items.{left_above, left_below}
use Rattle.prost_reflect_maps.specs.Runs.{flat}
use Rattle.prost_reflect_maps.specs.declared.sorted_map.walks.Items.{Items}
use Rattle.prost_reflect_maps.specs.declared.sorted_map.walks.ItemsBack.{ItemsBack}
use Rattle.prost_reflect_maps.specs.declared.walks.WalkUp.{WalkUp}
use Rattle.prost_reflect_maps.specs.declared.walks.WalkDown.{WalkDown}

abbrev pub items_left : {T : Type 0} → Items T → List (ℕ × T)
items_left it = it.run.now ++ flat it.runs.now

-- The walk from the back gives the last of these first.
abbrev pub items_left_back : {T : Type 0} → ItemsBack T → List (ℕ × T)
items_left_back it = flat it.runs.now ++ it.run.now

-- Of a walk over any map, whose items `entries` gives.
abbrev pub left_up : {T S : Type 0} → (S → List (ℕ × T)) → WalkUp T S → List (ℕ × T)
left_up entries walk = left_above (entries walk.map.now) walk.last

-- The walk down gives the last of these first.
abbrev pub left_down : {T S : Type 0} → (S → List (ℕ × T)) → WalkDown T S → List (ℕ × T)
left_down entries walk = left_below (entries walk.map.now) walk.last
