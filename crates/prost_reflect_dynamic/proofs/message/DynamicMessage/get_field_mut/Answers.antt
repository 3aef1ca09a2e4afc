use Rattle.prost_reflect_dynamic.proofs.Common.{message_type_of}
use Rattle.prost_reflect_dynamic.proofs.OwnFields.{own_known}
use Rattle.prost_reflect_dynamic.proofs.message.DynamicMessage.get_field_mut.Goals as goal

pub value_or_default_mut-requires : goal.value_or_default_mut-requires
value_or_default_mut-requires c = own_known (message_type_of c.args.self.now) c.args.field.now c.number.result c.requires c.number.ensures
