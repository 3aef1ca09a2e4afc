use Rattle.prost_reflect_dynamic.proofs.Common.{length, pool_rows}
use Rattle.prost_reflect_walks.proofs.PlaceRanges.{listed_below}
use Rattle.prost_reflect_dynamic.proofs.descriptor.message.MessageDescriptor.child_enums.Goals as goal

pub new-requires : goal.new-requires
new-requires c = listed_below (length (pool_rows c.args.self.now.pool.inner).enums) _ _ c.as_slice.ensures.value c.lists.ensures.enums
