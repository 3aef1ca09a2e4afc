use Rattle.prost_reflect_definition_checks.proofs.Common.{refl, sym, ◌∙◌, any_found, any_left}
use Rattle.std.proofs.lemmas.Fn.{says_at}
use Rattle.prost_reflect_definition_checks.proofs.walk.any.Goals as goal

pub returns-then-test : goal.returns-then-test
returns-then-test g c = λ p is.
    let told = is c.item-item.result c.test.result (says_at g.F.Fn c.test.ensures refl) in
    sym (c.loop-item.invariant p is ∙ any_found p c.args.items.now c.loop-item.item-index c.item-item.result c.loop-item-test.true c.item-item.is (sym told ∙ c.if-test.true))

pub loop-item-preserved : goal.loop-item-preserved
loop-item-preserved g c = λ p is.
    let told = is c.item-item.result c.test.result (says_at g.F.Fn c.test.ensures refl) in
    c.loop-item.invariant p is ∙ any_left p c.args.items.now c.loop-item.item-index c.item-item.result c.loop-item-test.true c.item-item.is (sym told ∙ c.if-test.false)
