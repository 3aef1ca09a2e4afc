use Rattle.prost_reflect_dynamic.proofs.ReadBack.{named_valid}
use Rattle.prost_reflect_dynamic.proofs.descriptor.message.MessageDescriptor.is_reduction_of.Goals as goal

pub returns-clause-newer : goal.returns-clause-newer
returns-clause-newer c = named_valid c.args.newer.now
