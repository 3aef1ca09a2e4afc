use Rattle.prost_reflect_fields.proofs.Common.{refl, ap, sym, ◌∙◌, is_at, nat_cmp, option_and_then, value_in, with_slot, revalued}
use Rattle.std.proofs.lemmas.Map.Steps.{set_value_same}
use Rattle.prost_reflect_fields.proofs.stored.value_mut.Goals as goal

pub returns-in-Some : goal.returns-in-Some
returns-in-Some g c =
    let es = g.S.NumberMap.entries c.args.fields.now in
    let n = c.args.number in
    let slot = c.in-Some.slot.now in (
      (
        refl,
        (λ w. let holds = c.get_mut.follows.holds (revalued slot w) in (holds.0 ∙ ap (with_slot es n w) c.in-Some.ensures.value, holds.1)),
        (let holds = c.get_mut.follows.holds slot in (holds.0 ∙ set_value_same (is_at (nat_cmp n)) es slot (sym c.in-Some.ensures.value), holds.1)),
      ),
      record { writes_back = tt; value = c.value_mut.ensures.value ∙ ap (option_and_then value_in) c.in-Some.ensures.value },
    )

pub returns-in-None : goal.returns-in-None
returns-in-None g c =
    let es = g.S.NumberMap.entries c.args.fields.now in (
      (refl, (λ w. (ap (with_slot es c.args.number w) c.in-None.ensures.value, refl)), c.get_mut.follows.holds-at-none),
      record { writes_back = tt; value = ap (option_and_then value_in) c.in-None.ensures.value },
    )
