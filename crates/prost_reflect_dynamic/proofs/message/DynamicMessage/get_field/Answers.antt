use Rattle.prost_reflect_dynamic.proofs.Common.{message_type_of}
use Rattle.prost_reflect_dynamic.proofs.OwnFields.{own_known}
use Rattle.prost_reflect_dynamic.proofs.message.DynamicMessage.get_field.Goals as goal

pub value_or_default-requires : goal.value_or_default-requires
value_or_default-requires c = own_known (message_type_of c.args.self.now) c.args.field.now c.number.result c.requires c.number.ensures
