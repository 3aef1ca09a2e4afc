use Rattle.prost_reflect_maps.proofs.Places.{empty_ascends}
use Rattle.prost_reflect_maps.proofs.sorted_map.list_of.Goals as goal

pub from_items-list-requires : goal.from_items-list-requires
from_items-list-requires g c = empty_ascends _ c.in_ok-with_capacity.ensures.items
