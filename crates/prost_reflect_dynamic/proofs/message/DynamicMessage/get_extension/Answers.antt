use Rattle.prost_reflect_dynamic.proofs.Common.{message_type_of}
use Rattle.prost_reflect_dynamic.proofs.OwnExtensions.{extension_known}
use Rattle.prost_reflect_dynamic.proofs.message.DynamicMessage.get_extension.Goals as goal

pub value_or_default-requires : goal.value_or_default-requires
value_or_default-requires c = extension_known (message_type_of c.args.self.now) c.args.extension.now c.number.result c.requires c.number.ensures
