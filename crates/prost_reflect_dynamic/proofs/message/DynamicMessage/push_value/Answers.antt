use Rattle.prost_reflect_dynamic.proofs.Common.{ap, map, ◌∙◌, IfOk-weaker, ListValue, values_from, value_at, entries_of, value_set, value_of, content_of, message_type_of, value_stored, typed_at}
use Rattle.prost_reflect_dynamic.proofs.Views.{value_of_list}
use Rattle.prost_reflect_dynamic.proofs.ElementReads.{lent_or_empty, with_lent}
use Rattle.prost_reflect_dynamic.specs.declared.value.Value as values
use Rattle.prost_reflect_dynamic.proofs.TypedSteps.{lent_step}
use Rattle.prost_reflect_dynamic.proofs.TypedValues.{element_added, empty_list_typed}
use Rattle.prost_reflect_dynamic.proofs.message.DynamicMessage.push_value.Goals as goal

pub push_item-requires : goal.push_item-requires
push_item-requires c = lent_or_empty (value_at c.args.number (entries_of (content_of c.args.self.now))) _ _ c.requires.list
    (value_of_list c.new.result ∙ ap (λ l. ListValue (values_from (map value_of l))) c.new.ensures.items) c.in_ok-value.ensures.value

pub returns-clause-content : goal.returns-clause-content
returns-clause-content c = IfOk-weaker c.push_item.result _ _
    (λ u pushed. c.in_ok-value.ensures.content c.push_item.new.value
    ∙ ap (λ v. value_set c.args.number v (content_of c.args.self.now)) (pushed ∙ with_lent (value_at c.args.number (entries_of (content_of c.args.self.now))) _ _ _
    (value_of_list c.new.result ∙ ap (λ l. ListValue (values_from (map value_of l))) c.new.ensures.items) c.in_ok-value.ensures.value))
    c.push_item.ensures.value

pub returns-clause-typed : goal.returns-clause-typed
returns-clause-typed c =
    let d = message_type_of c.args.self.now in
    IfOk-weaker c.push_item.result _ _
    (λ u pushed one. lent_step c.args.self.now c.args.number (values.List c.new.result) c.in_ok-value.ensures.ascending c.in_ok-value.value.now c.push_item.new.value c.in_ok-value.ensures.stored
    (empty_list_typed d c.args.number c.new.result c.new.ensures.items)
    (λ h. ap (typed_at d c.args.number) pushed ∙ element_added d c.args.number (value_stored c.in_ok-value.value.now) (value_stored c.args.element) one h))
    c.push_item.ensures.stored
