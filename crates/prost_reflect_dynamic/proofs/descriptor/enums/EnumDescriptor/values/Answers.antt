use Rattle.prost_reflect_dynamic.proofs.Common.{length, values_of}
use Rattle.prost_reflect_walks.proofs.PlaceRanges.{listed_below}
use Rattle.prost_reflect_dynamic.proofs.descriptor.enums.EnumDescriptor.values.Goals as goal

pub new-requires : goal.new-requires
new-requires c = listed_below (length (values_of c.args.self.now)) _ _ c.as_slice.ensures.value c.lists.ensures.by_number
