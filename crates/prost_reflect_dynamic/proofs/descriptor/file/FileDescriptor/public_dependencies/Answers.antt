use Rattle.prost_reflect_dynamic.proofs.Common.{length, files_of}
use Rattle.prost_reflect_walks.proofs.PlaceRanges.{all_below}
use Rattle.prost_reflect_dynamic.proofs.descriptor.file.FileDescriptor.public_dependencies.Goals as goal

pub new-requires : goal.new-requires
new-requires c = all_below (length (files_of c.args.self.now.pool.inner)) c.public_dependencies_listed.result.now c.public_dependencies_listed.ensures.there
