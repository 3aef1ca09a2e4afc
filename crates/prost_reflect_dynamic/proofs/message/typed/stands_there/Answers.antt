use Rattle.std.specs.Prelude.{◌≡◌, ◌&&◌}
use Rattle.prost_reflect_dynamic.proofs.Common.{true, nat_eq, sym, ◌∙◌, ap, ap₂, eq-eqb, Global, Rc, passes, contents_eq, pool_contents, LinkedPool, PooledType, message_type_of}
use Rattle.prost_reflect_dynamic.proofs.DeepTypes.{stands_is}
use Rattle.prost_reflect_dynamic.proofs.message.typed.stands_there.Goals as goal

pub returns-then-index-place : goal.returns-then-index-place
returns-then-index-place c =
    let here = message_type_of c.args.message.now in
    let own = c.message_type-own.ensures in
    let same = sym (ap (λ (d : PooledType). d.index) own) ∙ sym c.index.ensures ∙ c.if-index-place.true in
    let placed : passes c.args.place (nat_eq here.index) ≡ true = ap (λ o. passes o (nat_eq here.index)) c.in-Some.is ∙ eq-eqb here.index c.in-Some.place same in
    c.eq.ensures
    ∙ ap₂ (λ (a b : Rc LinkedPool Global). contents_eq (pool_contents a) (pool_contents b)) c.pool.ensures (c.pool-then-index-place.ensures ∙ ap (λ (d : PooledType). d.pool) own)
    ∙ ap (λ b. b && contents_eq (pool_contents c.args.message_type.now.pool) (pool_contents here.pool)) (sym placed)
    ∙ stands_is c.args.message_type.now c.args.place c.args.message.now
