use Rattle.prost_reflect.proofs.LoneExtensions.{extension_alone}
use Rattle.prost_reflect.proofs.like.ExtensionDescriptorFieldDescriptorLike.containing_oneof.Goals as goal

pub returns-clause-oneof : goal.returns-clause-oneof
returns-clause-oneof c = extension_alone c.args.self.now
