use Rattle.prost_reflect_growth.proofs.Common.{◌∙◌, refl, arith, rules}
use Rattle.std.proofs.lemmas.Fn.{says_at}
use Rattle.std.proofs.lemmas.List.{drop_all}
use Rattle.prost_reflect_growth.proofs.GatheredFrom.{gathered_none, gathered_more, gathered_all}
use Rattle.prost_reflect_growth.proofs.gather.gathered.Goals as goal

pub loop-offset-init : goal.loop-offset-init
loop-offset-init g c = λ o is. gathered_none o c.args.start c.args.items.now c.args.first c.args.count _ c.in_ok-lists.ensures

pub loop-offset-preserved : goal.loop-offset-preserved
loop-offset-preserved g c = λ o is.
    let told = is c.index-items-offset.result c.owner.result (says_at g.F.Fn c.owner.ensures refl) in
    gathered_more o c.args.start c.args.first c.args.items.now c.loop-offset.offset c.index-items-offset.result _ c.owner.result _ _ c.loop-offset-test.true c.index-items-offset.is (search rules) told c.in_ok-add_place.ensures
    ∙ c.loop-offset.invariant o is

pub returns : goal.returns
returns g c = λ o is. gathered_all o _ c.args.first c.args.items.now _ _ (drop_all c.loop-offset.offset c.args.items.now (omega (arith, c.loop-offset-test.false))) ∙ c.loop-offset.invariant o is
