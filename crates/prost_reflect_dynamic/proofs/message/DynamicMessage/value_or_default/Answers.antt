use Rattle.std.specs.Prelude.{◌≡◌}
use Rattle.prost_reflect_dynamic.proofs.Common.{rules, true, ap, sym, subst, ◌∙◌, IfSome, option_copied, IsDefaultAt, typed_at, value_stored}
use Rattle.prost_reflect_dynamic.proofs.DefaultParts.{default_at_part}
use Rattle.prost_reflect_dynamic.proofs.Depths.{Small, stored_small}
use Rattle.prost_reflect_dynamic.proofs.Parts.{stored_part}
use Rattle.prost_reflect_dynamic.proofs.Shown.{shown_held}
use Rattle.prost_reflect_dynamic.proofs.message.DynamicMessage.value_or_default.Goals as goal

pub returns-in-Some-clause-inside : goal.returns-in-Some-clause-inside
returns-in-Some-clause-inside c =
    let m = c.args.self.now in
    λ _. subst (λ o. IfSome o (Small m)) (sym c.stored_value.ensures.stored ∙ ap option_copied c.in-Some.is) (stored_small m c.args.number)

pub returns-in-Some-clause-part : goal.returns-in-Some-clause-part
returns-in-Some-clause-part c = stored_part c.args.self.now c.stored_value.ensures.ascending c.args.number c.in-Some.value.now (sym c.in-Some.ensures.stored)

pub returns-in_ok-default_at-in-None-clause-part : goal.returns-in_ok-default_at-in-None-clause-part
returns-in_ok-default_at-in-None-clause-part c =
    let n = c.args.number in
    let v = c.in_ok-default_at-in-None.field-0 in
    default_at_part c.args.self.now n v c.requires (subst (λ t. IsDefaultAt t n v) c.message_type.ensures c.in_ok-default_at-in-None.ensures.default)
    (subst (λ t. typed_at t n (value_stored v) ≡ true) c.message_type.ensures c.in_ok-default_at-in-None.ensures.typed)

pub returns-in-Some-clause-shown : goal.returns-in-Some-clause-shown
returns-in-Some-clause-shown c = search rules

pub returns-in-Some-clause-held : goal.returns-in-Some-clause-held
returns-in-Some-clause-held c = shown_held c.args.self.now c.args.number _ c.stored_value.ensures.ascending (returns-in-Some-clause-shown c)

pub returns-in_ok-default_at-in-None-clause-shown : goal.returns-in_ok-default_at-in-None-clause-shown
returns-in_ok-default_at-in-None-clause-shown c = search rules

pub returns-in_ok-default_at-in-None-clause-held : goal.returns-in_ok-default_at-in-None-clause-held
returns-in_ok-default_at-in-None-clause-held c = shown_held c.args.self.now c.args.number _ c.stored_value.ensures.ascending (returns-in_ok-default_at-in-None-clause-shown c)
