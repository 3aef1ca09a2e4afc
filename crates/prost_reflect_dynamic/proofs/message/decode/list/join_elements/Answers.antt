use Rattle.prost_reflect_dynamic.proofs.Common.{sym, IfOk-weaker}
use Rattle.prost_reflect_dynamic.proofs.ListMerging.{list_joined}
use Rattle.prost_reflect_dynamic.proofs.Views.{list_viewed}
use Rattle.prost_reflect_dynamic.proofs.message.decode.list.join_elements.Goals as goal

pub returns-clause-ok : goal.returns-clause-ok
returns-clause-ok c = IfOk-weaker c.push_elements.result _ _
    (λ rest. list_joined c.args.kind c.args.wire_type c.args.value.now _ c.push_elements.new.values c.args.bytes.now rest.now (list_viewed c.args.value.now _ (sym c.in-Some.ensures.value))) c.push_elements.ensures.ok
