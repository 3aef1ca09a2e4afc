use Rattle.prost_reflect_dynamic.proofs.Common.{sym, ◌∙◌, message_type_of}
use Rattle.prost_reflect_dynamic.proofs.OwnFields.{named_known}
use Rattle.prost_reflect_dynamic.proofs.message.DynamicMessage.set_field_by_name.Goals as goal

pub set_value-requires : goal.set_value-requires
set_value-requires c = named_known (message_type_of c.args.self.now) c.args.name.now c.in-Some.number (sym c.number_named.ensures ∙ c.in-Some.is)
