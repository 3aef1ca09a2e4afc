use Rattle.prost_reflect_dynamic.proofs.Common.{message_type_of}
use Rattle.prost_reflect_dynamic.specs.declared.value.Value as values
use Rattle.prost_reflect_dynamic.proofs.TypedSteps.{lent_step}
use Rattle.prost_reflect_dynamic.proofs.TypedValues.{empty_list_typed}
use Rattle.prost_reflect_dynamic.proofs.message.DynamicMessage.make_list.Goals as goal

pub returns-clause-typed : goal.returns-clause-typed
returns-clause-typed c =
    let lent = c.in_ok-value_mut_or in
    lent_step c.args.self.now c.args.number (values.List c.new.result) lent.ensures.ascending _ _ lent.ensures.stored (empty_list_typed (message_type_of c.args.self.now) c.args.number c.new.result c.new.ensures.items) (λ h. h)
