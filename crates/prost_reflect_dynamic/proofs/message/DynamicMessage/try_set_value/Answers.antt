use Rattle.prost_reflect_dynamic.proofs.Common.{message_type_of}
use Rattle.prost_reflect_dynamic.proofs.OwnFields.{number_known}
use Rattle.prost_reflect_dynamic.proofs.message.DynamicMessage.try_set_value.Goals as goal

pub set_value-requires : goal.set_value-requires
set_value-requires c = number_known (message_type_of c.args.self.now) c.args.number c.requires
