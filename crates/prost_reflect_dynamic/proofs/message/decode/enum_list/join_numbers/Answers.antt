use Rattle.prost_reflect_dynamic.proofs.Common.{sym, IfOk-weaker, pool_rows}
use Rattle.prost_reflect_dynamic.proofs.PartedNumbers.{numbers_list}
use Rattle.prost_reflect_dynamic.proofs.Views.{list_viewed}
use Rattle.prost_reflect_dynamic.proofs.message.decode.enum_list.join_numbers.Goals as goal

pub returns-clause-ok : goal.returns-clause-ok
returns-clause-ok c = IfOk-weaker c.push_numbers.result _ _
    (λ strays. numbers_list (pool_rows c.args.message_type.now.pool).enums c.args.kind c.args.value.now _ c.push_numbers.new.values strays.items c.args.body.now (list_viewed c.args.value.now _ (sym c.in-Some.ensures.value))) c.push_numbers.ensures.ok
