use Rattle.std.specs.Prelude.{◌≡◌}
use Rattle.prost_reflect_fields.proofs.Common.{Bool, true, false, cond, refl, ap, sym, subst, ◌∙◌, List, ℕ, true≢false, is_some, Field, FieldSlot, IsAscending, known_of, stored_at, with_value, OneofsSingle, set_value_at, prepared}
use Rattle.prost_reflect_fields.proofs.NotedMembers.{noted_after, noted_written}
use Rattle.prost_reflect_fields.proofs.SoundChanges.{value_set, single_less, fewer_written}
use Rattle.prost_reflect_fields.proofs.stored.value_mut_or.Goals as goal

prepared_has : {V : Type 0} (fields : List Field) (es : List (ℕ × FieldSlot V)) (n : ℕ) (v : V) → IsAscending es → is_some (stored_at (prepared fields es n v) n) ≡ true
prepared_has fields es n v s = cases (is_some (stored_at es n)) refl
  where
    cases : (b : Bool) → is_some (stored_at es n) ≡ b → is_some (stored_at (cond b es (set_value_at fields es n v)) n) ≡ true
    cases true h = h
    cases false h = ap is_some (value_set fields es n v s)

pub unreachable-requires : goal.unreachable-requires
unreachable-requires g c =
    let has = prepared_has (known_of c.args.message_type.now) (g.S.NumberMap.entries c.args.fields.now) c.args.number c.args.default c.set_default.ensures.ascending in
    true≢false (sym has ∙ ap (λ es. is_some (stored_at es c.args.number)) (sym c.in_ok-set_default.ensures.ok) ∙ ap is_some (sym c.in-None.ensures.value))

pub returns : goal.returns
returns g c =
    let n = c.args.number in
    let fields = known_of c.args.message_type.now in
    let is = c.in_ok-set_default.ensures.ok in (
      (
        refl,
        (λ w.
            let holds = c.value_mut.follows.holds w in (
              (
                holds.0 ∙ ap (λ (es : List (ℕ × FieldSlot g.row.V.Denot)). with_value es n w) is,
                noted_after fields holds.0 holds.1 (noted_written fields _ _ n w c.set_default.ensures.noted),
                λ before. subst (OneofsSingle fields) (sym holds.0) (single_less fields _ _ (fewer_written (g.S.NumberMap.entries c.set_default.new.fields) n w) (c.set_default.ensures.single before)),
              ),
              tt,
            )),
        ((is, c.set_default.ensures.noted, c.set_default.ensures.single), tt),
      ),
      record { writes_back = tt; value = ap (λ es. stored_at es n) (sym is) ∙ sym c.in-Some.ensures.value; ascending = c.set_default.ensures.ascending },
    )
