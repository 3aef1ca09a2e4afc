use Rattle.prost_reflect_dynamic.proofs.Common.{Option, sym, ap, subst, ◌∙◌, IfSome, option_map, FieldDescriptor}
use Rattle.prost_reflect_dynamic.specs.Named.{SameMessage}
use Rattle.prost_reflect_dynamic.proofs.ListedNumbers.{field_there, field_found}
use Rattle.prost_reflect_dynamic.proofs.message.lists.descriptors.field_at.Goals as goal

pub unreachable-requires : goal.unreachable-requires
unreachable-requires c =
    field_there c.args.message_type.now c.in_ok-message.message c.args.number c.in_ok-message.ensures c.requires
    (sym c.in_ok-field.ensures.found ∙ ap (option_map (λ (f : FieldDescriptor). f.index)) c.in-None.is)

pub returns-clause-number : goal.returns-clause-number
returns-clause-number c =
    (field_found c.args.message_type.now c.in_ok-message.message c.in-Some.field c.args.number c.in_ok-message.ensures
    (subst (λ (o : Option FieldDescriptor). IfSome o (λ f. SameMessage c.in_ok-message.message f.message)) c.in-Some.is c.in_ok-field.ensures.message)
    (sym c.in_ok-field.ensures.found ∙ ap (option_map (λ (f : FieldDescriptor). f.index)) c.in-Some.is)).1
