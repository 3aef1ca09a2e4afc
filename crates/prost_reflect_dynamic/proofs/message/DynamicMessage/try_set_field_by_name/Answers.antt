use Rattle.prost_reflect_dynamic.proofs.Common.{sym, ◌∙◌, message_type_of}
use Rattle.prost_reflect_dynamic.proofs.OwnFields.{named_declared}
use Rattle.prost_reflect_dynamic.proofs.message.DynamicMessage.try_set_field_by_name.Goals as goal

pub try_set_value-requires : goal.try_set_value-requires
try_set_value-requires c = named_declared (message_type_of c.args.self.now) c.args.name.now c.in-Some.number (sym c.number_named.ensures ∙ c.in-Some.is)
