-- The items of a map, wherever they stand, and the notes beside them.
use Rattle.std.specs.Prelude.{ℕ, List, [], Option, None}
use Rattle.prost_reflect_maps.specs.declared.sorted_map.Held.{Held}
use Rattle.prost_reflect_maps.specs.declared.sorted_map.Held.TheVariants.{Empty, Listed, Laid}

module _ {T : Type 0} where
  abbrev pub held_items : Held T → List (ℕ × T) × Option (List (ℕ × ℕ))
  held_items (Empty alloc room) = ([], None)
  held_items (Listed items) = (items, None)
  held_items (Laid noted) = noted
