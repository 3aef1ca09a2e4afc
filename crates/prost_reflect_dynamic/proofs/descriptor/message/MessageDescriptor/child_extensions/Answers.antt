use Rattle.prost_reflect_dynamic.proofs.Common.{length, pool_catalog}
use Rattle.prost_reflect_walks.proofs.PlaceRanges.{listed_below}
use Rattle.prost_reflect_dynamic.proofs.descriptor.message.MessageDescriptor.child_extensions.Goals as goal

pub new-requires : goal.new-requires
new-requires c = listed_below (length (pool_catalog c.args.self.now.pool.inner).extensions) _ _ c.as_slice.ensures.value c.lists.ensures.extensions
