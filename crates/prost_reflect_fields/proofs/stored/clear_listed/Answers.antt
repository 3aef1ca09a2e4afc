use Rattle.std.specs.Prelude.{◌≡◌, ◌<◌}
use Rattle.prost_reflect_fields.proofs.Common.{ℕ, Bool, List, Option, Some, None, sym, subst, ap, ◌∙◌, FieldSlot, without_values, first_value, known_of, is_other_member}
use Rattle.prost_reflect_fields.proofs.PresentSiblings.{value_count, one_taken, none_left, one_less}
use Rattle.prost_reflect_fields.proofs.stored.clear_listed.Goals as goal

-- what the walk over the list finds is what the map has
in_map : {V : Type 0} (test : ℕ → Bool) (items es : List (ℕ × FieldSlot V)) (answer o : Option ℕ) → items ≡ es → answer ≡ first_value test items → answer ≡ o → first_value test es ≡ o
in_map test items es answer o same found is = ap (first_value test) (sym same) ∙ sym found ∙ is

pub loop-items-smaller : goal.loop-items-smaller
loop-items-smaller g c =
    let test = is_other_member (known_of c.args.message_type.now) c.args.oneof c.args.number in
    let es = g.S.NumberMap.entries c.loop-items.fields in
    let member = c.in-Some-member_among.member in
    let found : first_value test es ≡ Some member = in_map test c.in-Some.items.now es c.member_among.result (Some member) c.in-Some.ensures c.member_among.ensures c.in-Some-member_among.is in
    subst (λ ds. value_count test ds < value_count test es) (sym c.take_value.ensures.entries) (one_less test es member found)

pub loop-items-preserved : goal.loop-items-preserved
loop-items-preserved g c =
    let test = is_other_member (known_of c.args.message_type.now) c.args.oneof c.args.number in
    let es = g.S.NumberMap.entries c.loop-items.fields in
    let member = c.in-Some-member_among.member in
    let found : first_value test es ≡ Some member = in_map test c.in-Some.items.now es c.member_among.result (Some member) c.in-Some.ensures c.member_among.ensures c.in-Some-member_among.is in
    record {
      left = ap (without_values test) c.take_value.ensures.entries ∙ one_taken test es member c.take_value.ensures.ascending found ∙ c.loop-items.invariant.left;
      noted = c.take_value.ensures.noted ∙ c.loop-items.invariant.noted;
    }

pub returns-in-None-clause-cleared : goal.returns-in-None-clause-cleared
returns-in-None-clause-cleared g c =
    let test = is_other_member (known_of c.args.message_type.now) c.args.oneof c.args.number in
    let es = g.S.NumberMap.entries c.loop-items.fields in
    let none : first_value test es ≡ None = in_map test c.in-Some.items.now es c.member_among.result None c.in-Some.ensures c.member_among.ensures c.in-None.is in
    λ _. sym (none_left test es none) ∙ c.loop-items.invariant.left
