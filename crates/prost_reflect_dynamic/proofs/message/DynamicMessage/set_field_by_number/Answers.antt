use Rattle.prost_reflect_dynamic.proofs.Common.{sym, ◌∙◌, message_type_of}
use Rattle.prost_reflect_dynamic.proofs.OwnFields.{number_known}
use Rattle.prost_reflect_dynamic.proofs.message.DynamicMessage.set_field_by_number.Goals as goal

pub set_value-requires : goal.set_value-requires
set_value-requires c = number_known (message_type_of c.args.self.now) c.args.number (sym c.is_field_number.ensures ∙ c.if-is_field_number.true)
