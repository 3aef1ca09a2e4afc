use Rattle.prost_reflect_dynamic.proofs.Common.{ap, sym, ◌∙◌, option_map, message_type_of, FieldDescriptor}
use Rattle.prost_reflect_dynamic.proofs.OwnFields.{field_there}
use Rattle.prost_reflect_dynamic.proofs.message.DynamicMessage.field_at.Goals as goal

pub unreachable-requires : goal.unreachable-requires
unreachable-requires c =
    field_there (message_type_of c.args.self.now) c.in_ok-descriptor.field-0 c.args.number c.in_ok-descriptor.ensures c.requires
    (sym (ap (option_map (λ (f : FieldDescriptor). f.index)) c.in-None.is) ∙ c.in_ok-field.ensures.found)
