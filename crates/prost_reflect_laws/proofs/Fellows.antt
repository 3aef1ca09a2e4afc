-- The members of a oneof, in two message types of a reduction; and that one of them alone has a value.
use Rattle.std.specs.Prelude.{◌≡◌, ◌&&◌, ◌||◌, ◌∷◌}
use Rattle.prost_reflect_laws.proofs.Common.{ℕ, Bool, true, false, cond, not, List, [], filter, nat_eq, Option, Some, None, refl, ap, ap₂, sym, ◌∙◌, true≢false, eqb-true, eq-eqb, and_parts, or_parts, not-true, beq, list_any, Record, Field, field_of, same_oneof, is_sibling, passes, after_last, TypePairs, is_known, has_no_fellow, beq_same, eqb-sym, field_number, filter_none, survive_none, after_cons}
use Rattle.prost_reflect_laws.proofs.Matches.{found_passes, any_found, some_field, Passing, found_any, member_at, same_oneof_sym, TypesMatch, Like}

not_known : (fields : List Field) (n : ℕ) (oneof : Option ℕ) → field_of fields n ≡ None → list_any (member_at n oneof) fields ≡ false
not_known [] n oneof e = refl
not_known (g ∷ fields) n oneof e = go (nat_eq g.number n) e (not_known fields n oneof)
  where
    go : (b : Bool) → cond b (Some g) (field_of fields n) ≡ None → (field_of fields n ≡ None → list_any (member_at n oneof) fields ≡ false) → ((b && same_oneof g.oneof oneof) || list_any (member_at n oneof) fields) ≡ false
    go true e more = cc
    go false e more = more e

-- a number that is not known is no sibling's
pub unknown_no_sibling : (fields : List Field) (f : Field) (n : ℕ) → field_of fields n ≡ None → is_sibling fields f n ≡ false
unknown_no_sibling fields f n e = ap (λ b. not (nat_eq n f.number) && b) (not_known fields n f.oneof e) ∙ nothing (not (nat_eq n f.number))
  where
    nothing : (b : Bool) → (b && false) ≡ false
    nothing true = refl
    nothing false = refl

none_known : (fields : List Field) (n : ℕ) → field_of fields n ≡ None → is_known fields n ≡ false
none_known fields n e = ap (λ (o : Option Field). passes o (λ f. true)) e

or_left : (a b : Bool) → (a || not b) ≡ true → a ≡ false → b ≡ false
or_left false false h e = refl
or_left _ b h e = cc

-- a field whose number is lacking has no fellow
alone : (older newer : List Field) (g : Field) → has_no_fellow older newer g ≡ true → field_of older g.number ≡ None → list_any (λ h. is_sibling newer g h.number) newer ≡ false
alone older newer g h e = or_left (is_known older g.number) (list_any (λ h. is_sibling newer g h.number) newer) h (none_known older g.number e)

pub lone : (pairs : TypePairs) (older newer : List Field) (n m : ℕ) (g : Field) → TypesMatch pairs older newer → field_of older n ≡ None → field_of newer n ≡ Some g → is_sibling newer g m ≡ false
lone pairs older newer n m g t lacking found = go (is_sibling newer g m) refl
  where
    no_fellow : list_any (λ h. is_sibling newer g h.number) newer ≡ false
    no_fellow = alone older newer g (found_passes (has_no_fellow older newer) newer n g t.lacking found) (ap (field_of older) (field_number newer n g found) ∙ lacking)

    go : (b : Bool) → is_sibling newer g m ≡ b → is_sibling newer g m ≡ false
    go false e = e
    go true e =
        let p : Passing (member_at m g.oneof) newer = some_field (member_at m g.oneof) newer (and_parts (not (nat_eq m g.number)) (list_any (member_at m g.oneof) newer) e).1 in
        let number : p.field.number ≡ m = eqb-true p.field.number m (and_parts (nat_eq p.field.number m) (same_oneof p.field.oneof g.oneof) p.passes).0 in
        ap (is_sibling newer g) (sym number) ∙ p.none (λ h. is_sibling newer g h.number) no_fellow

-- a field and its like have the same siblings
pub fellows : (pairs : TypePairs) (older newer : List Field) (f g : Field) (m : ℕ) → TypesMatch pairs older newer → Like pairs older newer f g → is_sibling newer g m ≡ is_sibling older f m
fellows pairs older newer f g m t l = go (field_of older m) refl
  where
    newer_none : field_of older m ≡ None → (b : Bool) → is_sibling newer g m ≡ b → is_sibling newer g m ≡ false
    newer_none lacking false e = e
    newer_none lacking true e =
        let (other, some) = and_parts (not (nat_eq m g.number)) (list_any (member_at m g.oneof) newer) e in
        let p : Passing (member_at m g.oneof) newer = some_field (member_at m g.oneof) newer some in
        let (at, same) = and_parts (nat_eq p.field.number m) (same_oneof p.field.oneof g.oneof) p.passes in
        let number : p.field.number ≡ m = eqb-true p.field.number m at in
        let no_fellow : list_any (λ h. is_sibling newer p.field h.number) newer ≡ false =
        alone older newer p.field (p.all (has_no_fellow older newer) t.lacking) (ap (field_of older) number ∙ lacking) in
        absurd (true≢false (sym (back p.field number same other) ∙ any_found (λ h. is_sibling newer p.field h.number) newer f.number g no_fellow l.found))
      where
        back : (h : Field) → h.number ≡ m → same_oneof h.oneof g.oneof ≡ true → not (nat_eq m g.number) ≡ true → is_sibling newer h g.number ≡ true
        back h number same other = ap (λ k. not k && list_any (member_at g.number h.oneof) newer) (ap (nat_eq g.number) number ∙ eqb-sym g.number m ∙ not-true (nat_eq m g.number) other)
            ∙ found_any (member_at g.number h.oneof) newer f.number g l.found (ap (λ b. b && same_oneof g.oneof h.oneof) (eq-eqb g.number g.number refl) ∙ same_oneof_sym g.oneof h.oneof ∙ same)

    go : (o : Option Field) → field_of older m ≡ o → is_sibling newer g m ≡ is_sibling older f m
    go None e = newer_none e (is_sibling newer g m) refl ∙ sym (unknown_no_sibling older f m e)
    go (Some h) e =
        let number : h.number ≡ m = field_number older m h e in
        let same : is_sibling newer g h.number ≡ is_sibling older f h.number = beq_same (is_sibling older f h.number) (is_sibling newer g h.number)
        (found_passes (λ h. beq (is_sibling older f h.number) (is_sibling newer g h.number)) older m h l.siblings e) in
        ap (is_sibling newer g) (sym number) ∙ same ∙ ap (is_sibling older f) number

-- VALUES OF ONE ONEOF

implied_none : (t u : Record → Bool) (rs : List Record) → ((r : Record) → t r ≡ true → u r ≡ true) → list_any u rs ≡ false → list_any t rs ≡ false
implied_none t u [] h e = refl
implied_none t u (r ∷ rs) h e =
    let (one, more) = or_parts (u r) (list_any u rs) e in
    go (t r) refl one (implied_none t u rs h more)
  where
    go : (b : Bool) → t r ≡ b → u r ≡ false → list_any t rs ≡ false → (t r || list_any t rs) ≡ false
    go true e one more = absurd (true≢false (sym (h r e) ∙ one))
    go false e one more = ap (λ b. b || list_any t rs) e ∙ more

-- where records of one member survive those of another, none of that other survive
pub one_survives : (t u p q : Record → Bool) (rs : List Record) → ((r : Record) → t r ≡ true → q r ≡ true) → ((r : Record) → u r ≡ true → p r ≡ true) →
    (filter t (after_last p rs) ≡ [] → ⊥) → filter u (after_last q rs) ≡ []
one_survives t u p q [] tq up some = refl
one_survives t u p q (r ∷ rs) tq up some = go (list_any p rs) refl (list_any q rs) refl (q r) refl (one_survives t u p q rs tq up)
  where
    -- nothing of u stands behind, where none of p does; and so of t and q
    behind : list_any p rs ≡ false → list_any u rs ≡ false
    behind e = implied_none u p rs up e

    front : list_any q rs ≡ false → list_any t rs ≡ false
    front e = implied_none t q rs tq e

    by : (b c : Bool) → list_any q rs ≡ b → q r ≡ c → filter u (after_last q (r ∷ rs)) ≡ cond b (filter u (after_last q rs)) (cond c (filter u rs) (filter u (r ∷ rs)))
    by b c e f = after_cons q u r rs ∙ ap₂ (λ b c. cond b (filter u (after_last q rs)) (cond c (filter u rs) (filter u (r ∷ rs)))) e f

    own : (b : Bool) → t r ≡ b → q r ≡ false → t r ≡ false
    own false e f = e
    own true e f = absurd (true≢false (sym (tq r e) ∙ f))

    further : (x : Bool) → list_any p rs ≡ x → filter t (after_last p (r ∷ rs)) ≡ cond x (filter t (after_last p rs)) (cond (p r) (filter t rs) (filter t (r ∷ rs)))
    further x e = after_cons p t r rs ∙ ap (λ b. cond b (filter t (after_last p rs)) (cond (p r) (filter t rs) (filter t (r ∷ rs)))) e

    go : (a : Bool) → list_any p rs ≡ a → (b : Bool) → list_any q rs ≡ b → (c : Bool) → q r ≡ c → ((filter t (after_last p rs) ≡ [] → ⊥) → filter u (after_last q rs) ≡ []) → filter u (after_last q (r ∷ rs)) ≡ []
    go true e true f c g more = by true c f g ∙ more (λ n. some (further true e ∙ n))
    go true e false f c g more = absurd (some (further true e ∙ survive_none p t rs (front f)))
    go false e true f c g more = by true c f g ∙ survive_none q u rs (behind e)
    go false e false f true g more = by false true f g ∙ filter_none u rs (behind e)
    go false e false f false g more = absurd (some (survive_none p t (r ∷ rs) (ap (λ b. b || list_any t rs) (own (t r) refl g) ∙ front f)))
