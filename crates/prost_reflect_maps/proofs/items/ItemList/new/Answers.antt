use Rattle.prost_reflect_maps.proofs.Places.{empty_ascends}
use Rattle.prost_reflect_maps.proofs.items.ItemList.new.Goals as goal

pub invariant_of-result : goal.invariant_of-result
invariant_of-result g c = empty_ascends _ c.new.ensures.items
