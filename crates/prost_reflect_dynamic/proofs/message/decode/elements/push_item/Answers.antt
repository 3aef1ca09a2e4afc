use Rattle.prost_reflect_dynamic.proofs.Common.{sym, IfOk-weaker}
use Rattle.prost_reflect_dynamic.proofs.ElementReads.{element_pushed}
use Rattle.prost_reflect_dynamic.proofs.TypedValues.{item_pushed}
use Rattle.prost_reflect_dynamic.proofs.Views.{list_viewed}
use Rattle.prost_reflect_dynamic.proofs.message.decode.elements.push_item.Goals as goal

pub returns-clause-value : goal.returns-clause-value
returns-clause-value c = IfOk-weaker c.push_element.result _ _
    (λ u items. element_pushed c.args.value.now _ c.push_element.new.values c.args.element (list_viewed c.args.value.now _ (sym c.in-Some.ensures.value)) items) c.push_element.ensures

pub returns-clause-stored : goal.returns-clause-stored
returns-clause-stored c = IfOk-weaker c.push_element.result _ _
    (λ u items. item_pushed c.args.value.now _ c.push_element.new.values c.args.element (sym c.in-Some.ensures.value) items) c.push_element.ensures
