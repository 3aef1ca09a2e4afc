use Rattle.prost_reflect_dynamic.proofs.Common.{sym, ◌∙◌, message_type_of}
use Rattle.prost_reflect_dynamic.proofs.OwnFields.{named_known}
use Rattle.prost_reflect_dynamic.proofs.message.DynamicMessage.get_field_by_name.Goals as goal

pub value_or_default-requires : goal.value_or_default-requires
value_or_default-requires c = named_known (message_type_of c.args.self.now) c.args.name.now c.in-Some.number (sym c.number_named.ensures ∙ c.in-Some.is)
