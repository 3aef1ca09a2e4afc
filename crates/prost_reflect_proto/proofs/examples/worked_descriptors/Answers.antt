use Rattle.prost_reflect_proto.proofs.ComputedDescriptors.{descriptors}
use Rattle.prost_reflect_proto.proofs.examples.worked_descriptors.Goals as goal

pub returns : goal.returns
returns c = descriptors
