use Rattle.prost_reflect_growth.proofs.Common.{arith}
use Rattle.prost_reflect_tables.proofs.Grouping.{item_pushed, item_outside, item_none}
use Rattle.prost_reflect_growth.proofs.belonging.add_item.Goals as goal

pub returns-in_ok-push : goal.returns-in_ok-push
returns-in_ok-push g c =
    item_pushed c.args.place c.in-Some.place c.args.item c.args.lists.now.items c.push.new.self c.index_mut.result.now c.in-Some.is
    (omega (arith, c.if-place-len.true, c.len.ensures, c.args.lists.now.ok.0)) c.index_mut.ensures.value c.in_ok-push.ensures.items

pub returns-else-place-len : goal.returns-else-place-len
returns-else-place-len g c = item_outside c.args.place c.in-Some.place c.args.item c.args.lists.now.items c.in-Some.is (omega (arith, c.if-place-len.false, c.len.ensures, c.args.lists.now.ok.0))

pub returns-in_default : goal.returns-in_default
returns-in_default g c = item_none c.args.place c.args.item c.args.lists.now.items c.in_default.is
