use Rattle.std.specs.Prelude.{◌≡◌}
use Rattle.prost_reflect_reduction.proofs.Common.{true, false, sym, ◌∙◌, subst, holds, IsSetOf}
use Rattle.prost_reflect_reduction.proofs.Walking.{set_more, set_is, was_new, was_there, joined_new, joined_there}
use Rattle.prost_reflect_reduction.proofs.walk.add.Goals as goal

pub returns-in_ok-push-2-clause-set : goal.returns-in_ok-push-2-clause-set
returns-in_ok-push-2-clause-set c =
    subst (IsSetOf c.insert.new.self) (sym c.in_ok-push.ensures.items) (set_more c.args.set.now c.insert.new.self c.args.pairs.now.items c.args.pair c.requires c.in_ok-insert.ensures.updates.0)

pub returns-in_ok-push-2-clause-pairs : goal.returns-in_ok-push-2-clause-pairs
returns-in_ok-push-2-clause-pairs c =
    let new : holds c.args.pairs.now.items c.args.pair.0 c.args.pair.1 ≡ false = sym (set_is c.args.set.now c.args.pairs.now.items c.args.pair c.requires) ∙ was_new _ (sym c.in_ok-insert.ensures.added ∙ c.if-branch.true) in
    c.in_ok-push.ensures.items ∙ sym (joined_new c.args.pairs.now.items c.args.pair new)

pub returns-else-branch-clause-pairs : goal.returns-else-branch-clause-pairs
returns-else-branch-clause-pairs c =
    let there : holds c.args.pairs.now.items c.args.pair.0 c.args.pair.1 ≡ true = sym (set_is c.args.set.now c.args.pairs.now.items c.args.pair c.requires) ∙ was_there _ (sym c.in_ok-insert.ensures.added ∙ c.if-branch.false) in
    sym (joined_there c.args.pairs.now.items c.args.pair there)
