use Rattle.prost_reflect_dynamic.proofs.Common.{message_type_of}
use Rattle.prost_reflect_dynamic.proofs.OwnExtensions.{extension_known}
use Rattle.prost_reflect_dynamic.proofs.message.DynamicMessage.get_extension_mut.Goals as goal

pub value_or_default_mut-requires : goal.value_or_default_mut-requires
value_or_default_mut-requires c = extension_known (message_type_of c.args.self.now) c.args.extension.now c.number.result c.requires c.number.ensures
