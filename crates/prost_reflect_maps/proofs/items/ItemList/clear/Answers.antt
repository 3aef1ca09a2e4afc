use Rattle.prost_reflect_maps.proofs.Places.{empty_ascends}
use Rattle.prost_reflect_maps.proofs.items.ItemList.clear.Goals as goal

pub invariant_of-self : goal.invariant_of-self
invariant_of-self g c = empty_ascends _ c.clear.ensures.items
