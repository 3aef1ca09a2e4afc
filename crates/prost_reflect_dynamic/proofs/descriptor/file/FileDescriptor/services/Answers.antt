use Rattle.prost_reflect_dynamic.proofs.Common.{length, pool_catalog}
use Rattle.prost_reflect_walks.proofs.PlaceRanges.{listed_below}
use Rattle.prost_reflect_dynamic.proofs.descriptor.file.FileDescriptor.services.Goals as goal

pub new-requires : goal.new-requires
new-requires c = listed_below (length (pool_catalog c.args.self.now.pool.inner).services) _ _ c.as_slice.ensures.value c.table.ensures.services
