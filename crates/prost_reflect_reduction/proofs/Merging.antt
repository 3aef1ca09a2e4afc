-- What a walk over the fields of two types in ascending order says: fields have their likes, with the same siblings, and a field that only the newer type has has none.
use Rattle.std.specs.Prelude.{◌≡◌, ◌≢◌, ◌⊎◌, ◌<◌, ◌≤◌, ◌&&◌, ◌||◌, ◌∷◌}
use Rattle.prost_reflect_reduction.proofs.Common.{inl, inr, ⊎_elim, ℕ, nat_eq, eq-eqb, Bool, true, false, cond, not, List, [], Option, Some, None, refl, ap, ap₂, sym, ◌∙◌, arith, true≢false, beq, list_any, list_all, cases_lt, eqb-true, eqb-false, ne_eqb, lt-ltb, and_parts, and_from, or_parts, Field, field_of, same_oneof, is_sibling, passes, same_siblings, has_no_fellow, is_known, fields_alike, has_alike, first_member, merged}
use Rattle.prost_reflect_wire.proofs.ListTests.{beq_same}
use Rattle.prost_reflect_wire.proofs.Survivors.{field_number}
use Rattle.prost_reflect_reduction.proofs.Chains.{rising, next_in, oneof_at, same, onward, below_none, below_next, below_oneof, turned_oneof, carried, nexts_same}

-- NUMBER BY NUMBER

abbrev alike_or : Option Field → Option Field → Bool
alike_or None o = true
alike_or (Some f) None = false
alike_or (Some f) (Some g) = fields_alike f g

-- Fields of each number are alike, and the same member of their oneofs follows.
record Joined (older newer : List Field) : Type 0 where
  likes : (n : ℕ) → alike_or (field_of older n) (field_of newer n) ≡ true
  nexts : (n : ℕ) → next_in older n ≡ next_in newer n

any_like : (o p : Option Field) → p ≡ None → alike_or o p ≡ true → (q : Option Field) → alike_or o q ≡ true
any_like None p e h q = refl
any_like (Some f) None e h q = absurd (true≢false (sym h))
any_like (Some f) (Some g) e h q = cc

nothing_asked : (o p : Option Field) → o ≡ None → alike_or o p ≡ true
nothing_asked None p e = refl
nothing_asked (Some f) p e = cc

-- one field more in the newer type
lacking : (older : List Field) (g : Field) (newer : List Field) → rising g.number newer ≡ true → nat_eq (first_member newer g.oneof) 0 ≡ true → Joined older newer → Joined older (g ∷ newer)
lacking older g newer up z j = record { likes = λ n. like n (nat_eq g.number n) refl; nexts = λ n. next n (nat_eq g.number n) refl }
  where
    like : (n : ℕ) (b : Bool) → nat_eq g.number n ≡ b → alike_or (field_of older n) (cond b (Some g) (field_of newer n)) ≡ true
    like n true e = let is = eqb-true g.number n e in any_like (field_of older n) (field_of newer n) (below_none g.number n newer up (omega (arith, is))) (j.likes n) (Some g)
    like n false e = j.likes n

    next : (n : ℕ) (b : Bool) → nat_eq g.number n ≡ b → next_in older n ≡ cond b (first_member newer g.oneof) (next_in newer n)
    next n true e = let is = eqb-true g.number n e in j.nexts n ∙ (below_next g.number n newer up (omega (arith, is)) ∙ sym (eqb-true (first_member newer g.oneof) 0 z))
    next n false e = j.nexts n

unlacking : (older : List Field) (g : Field) (newer : List Field) → rising g.number older ≡ true → rising g.number newer ≡ true → Joined older (g ∷ newer) → (nat_eq (first_member newer g.oneof) 0 ≡ true) × Joined older newer
unlacking older g newer up up' j = (eq-eqb (first_member newer g.oneof) 0 first, record { likes = λ n. like n (nat_eq g.number n) refl (j.likes n); nexts = λ n. next n (nat_eq g.number n) refl (j.nexts n) })
  where
    first : first_member newer g.oneof ≡ 0
    first = sym (ap (λ b. cond b (first_member newer g.oneof) (next_in newer g.number)) (eq-eqb g.number g.number refl)) ∙ (sym (j.nexts g.number) ∙ below_next g.number g.number older up (omega arith))

    like : (n : ℕ) (b : Bool) → nat_eq g.number n ≡ b → alike_or (field_of older n) (cond b (Some g) (field_of newer n)) ≡ true → alike_or (field_of older n) (field_of newer n) ≡ true
    like n true e h = let is = eqb-true g.number n e in nothing_asked (field_of older n) (field_of newer n) (below_none g.number n older up (omega (arith, is)))
    like n false e h = h

    next : (n : ℕ) (b : Bool) → nat_eq g.number n ≡ b → next_in older n ≡ cond b (first_member newer g.oneof) (next_in newer n) → next_in older n ≡ next_in newer n
    next n true e h = let is = eqb-true g.number n e in below_next g.number n older up (omega (arith, is)) ∙ sym (below_next g.number n newer up' (omega (arith, is)))
    next n false e h = h

-- one field more in both
both_more : (f : Field) (older : List Field) (g : Field) (newer : List Field) → f.number ≡ g.number → nat_eq (first_member older f.oneof) (first_member newer g.oneof) ≡ true → fields_alike f g ≡ true → Joined older newer → Joined (f ∷ older) (g ∷ newer)
both_more f older g newer is z alike j = record {
  likes = λ n. ap (λ k. alike_or (cond (nat_eq f.number n) (Some f) (field_of older n)) (cond (nat_eq k n) (Some g) (field_of newer n))) (sym is) ∙ like n (nat_eq f.number n);
  nexts = λ n. next n (nat_eq f.number n) ∙ ap (λ k. cond (nat_eq k n) (first_member newer g.oneof) (next_in newer n)) is;
}
  where
    like : (n : ℕ) (b : Bool) → alike_or (cond b (Some f) (field_of older n)) (cond b (Some g) (field_of newer n)) ≡ true
    like n true = alike
    like n false = j.likes n

    next : (n : ℕ) (b : Bool) → cond b (first_member older f.oneof) (next_in older n) ≡ cond b (first_member newer g.oneof) (next_in newer n)
    next n true = eqb-true (first_member older f.oneof) (first_member newer g.oneof) z
    next n false = j.nexts n

record Parted (f : Field) (older : List Field) (g : Field) (newer : List Field) : Type 0 where
  next : nat_eq (first_member older f.oneof) (first_member newer g.oneof) ≡ true
  alike : fields_alike f g ≡ true
  rest : Joined older newer

both_parted : (f : Field) (older : List Field) (g : Field) (newer : List Field) → f.number ≡ g.number → rising f.number older ≡ true → rising g.number newer ≡ true → Joined (f ∷ older) (g ∷ newer) → Parted f older g newer
both_parted f older g newer is up up' j = record {
  next = eq-eqb _ _ (at_next f.number true (eq-eqb f.number f.number refl));
  alike = at_like f.number true (eq-eqb f.number f.number refl);
  rest = record { likes = λ n. like n (nat_eq f.number n) refl; nexts = λ n. next n (nat_eq f.number n) refl };
}
  where
    at_like : (n : ℕ) (b : Bool) → nat_eq f.number n ≡ b → alike_or (cond b (Some f) (field_of older n)) (cond b (Some g) (field_of newer n)) ≡ true
    at_like n b e = sym (ap₂ (λ c d. alike_or (cond c (Some f) (field_of older n)) (cond d (Some g) (field_of newer n))) e (ap (λ k. nat_eq k n) (sym is) ∙ e)) ∙ j.likes n

    at_next : (n : ℕ) (b : Bool) → nat_eq f.number n ≡ b → cond b (first_member older f.oneof) (next_in older n) ≡ cond b (first_member newer g.oneof) (next_in newer n)
    at_next n b e = sym (ap (λ c. cond c (first_member older f.oneof) (next_in older n)) e) ∙ (j.nexts n ∙ ap (λ c. cond c (first_member newer g.oneof) (next_in newer n)) (ap (λ k. nat_eq k n) (sym is) ∙ e))

    like : (n : ℕ) (b : Bool) → nat_eq f.number n ≡ b → alike_or (field_of older n) (field_of newer n) ≡ true
    like n true e = let same = eqb-true f.number n e in nothing_asked (field_of older n) (field_of newer n) (below_none f.number n older up (omega (arith, same)))
    like n false e = at_like n false e

    next : (n : ℕ) (b : Bool) → nat_eq f.number n ≡ b → next_in older n ≡ next_in newer n
    next n true e = let same = eqb-true f.number n e in below_next f.number n older up (omega (arith, same)) ∙ sym (below_next g.number n newer up' (omega (arith, same, is)))
    next n false e = at_next n false e

merged_joins : (low : ℕ) (older newer : List Field) → rising low newer ≡ true → merged older newer ≡ true → Joined older newer
unfolding merged
merged_joins low [] [] h m = record { likes = λ n. refl; nexts = λ n. refl }
merged_joins low (f ∷ older) [] h m = absurd (true≢false (sym m))
merged_joins low [] (g ∷ newer) h m =
    let (z, rest) = and_parts (nat_eq (first_member newer g.oneof) 0) (merged [] newer) m in
    lacking [] g newer (onward low g newer h) z (merged_joins g.number [] newer (onward low g newer h) rest)
merged_joins low (f ∷ older) (g ∷ newer) h m = go (nat_eq f.number g.number) refl m (merged_joins g.number older newer (onward low g newer h)) (merged_joins g.number (f ∷ older) newer (onward low g newer h))
  where
    go : (b : Bool) → nat_eq f.number g.number ≡ b → cond b (nat_eq (first_member older f.oneof) (first_member newer g.oneof) && fields_alike f g && merged older newer) (nat_eq (first_member newer g.oneof) 0 && merged (f ∷ older) newer) ≡ true →
        (merged older newer ≡ true → Joined older newer) → (merged (f ∷ older) newer ≡ true → Joined (f ∷ older) newer) → Joined (f ∷ older) (g ∷ newer)
    go true e m both one =
        let (zn, rest) = and_parts (nat_eq (first_member older f.oneof) (first_member newer g.oneof) && fields_alike f g) (merged older newer) m in
        let (z, alike) = and_parts (nat_eq (first_member older f.oneof) (first_member newer g.oneof)) (fields_alike f g) zn in
        both_more f older g newer (eqb-true f.number g.number e) z alike (both rest)
    go false e m both one =
        let (z, rest) = and_parts (nat_eq (first_member newer g.oneof) 0) (merged (f ∷ older) newer) m in
        lacking (f ∷ older) g newer (onward low g newer h) z (one rest)

joins_merged : (low low' : ℕ) (older newer : List Field) → rising low older ≡ true → rising low' newer ≡ true → Joined older newer → merged older newer ≡ true
unfolding merged
joins_merged low low' [] [] h h' j = refl
joins_merged low low' (f ∷ older) [] h h' j = absurd (true≢false (sym (j.likes f.number) ∙ ap (λ b. alike_or (cond b (Some f) (field_of older f.number)) None) (eq-eqb f.number f.number refl)))
joins_merged low low' [] (g ∷ newer) h h' j =
    let (z, rest) = unlacking [] g newer refl (onward low' g newer h') j in
    and_from _ _ z (joins_merged low g.number [] newer h (onward low' g newer h') rest)
joins_merged low low' (f ∷ older) (g ∷ newer) h h' j = go (nat_eq f.number g.number) refl (joins_merged f.number g.number older newer (onward low f older h) (onward low' g newer h')) (joins_merged low g.number (f ∷ older) newer h (onward low' g newer h'))
  where
    go : (b : Bool) → nat_eq f.number g.number ≡ b → (Joined older newer → merged older newer ≡ true) → (Joined (f ∷ older) newer → merged (f ∷ older) newer ≡ true) →
        cond b (nat_eq (first_member older f.oneof) (first_member newer g.oneof) && fields_alike f g && merged older newer) (nat_eq (first_member newer g.oneof) 0 && merged (f ∷ older) newer) ≡ true
    go true e both one =
        let p = both_parted f older g newer (eqb-true f.number g.number e) (onward low f older h) (onward low' g newer h') j in
        and_from _ _ (and_from _ _ p.next p.alike) (both p.rest)
    go false e both one = further (cases_lt g.number f.number)
      where
        further : (g.number < f.number) ⊎ (f.number ≤ g.number) → (nat_eq (first_member newer g.oneof) 0 && merged (f ∷ older) newer) ≡ true
        further (inl under) =
            let (z, rest) = unlacking (f ∷ older) g newer (and_from _ _ (lt-ltb g.number f.number under) (onward low f older h)) (onward low' g newer h') j in
            and_from _ _ z (one rest)
        further (inr over) =
            let differ = eqb-false f.number g.number e in
            let less : f.number < g.number = ⊎_elim (λ (l : f.number < g.number). l) (λ back. absurd (differ (omega arith))) (cases_lt f.number g.number) in
            let up : rising f.number (g ∷ newer) ≡ true = and_from _ _ (lt-ltb f.number g.number less) (onward low' g newer h') in
            let missing = below_none f.number f.number (g ∷ newer) up (omega arith) in
            absurd (true≢false (sym (j.likes f.number) ∙ (ap₂ (λ b o. alike_or (cond b (Some f) (field_of older f.number)) o) (eq-eqb f.number f.number refl) missing)))

-- SIBLINGS

any_at : (low m : ℕ) (o : Option ℕ) (fields : List Field) → rising low fields ≡ true → list_any (λ g. nat_eq g.number m && same_oneof g.oneof o) fields ≡ same_oneof (oneof_at fields m) o
any_at low m o [] h = refl
any_at low m o (g ∷ fields) h = go (nat_eq g.number m) refl (any_at g.number m o fields (onward low g fields h))
  where
    or_false : (b : Bool) → (b || false) ≡ b
    or_false true = refl
    or_false false = refl

    go : (b : Bool) → nat_eq g.number m ≡ b → list_any (λ g. nat_eq g.number m && same_oneof g.oneof o) fields ≡ same_oneof (oneof_at fields m) o →
        ((b && same_oneof g.oneof o) || list_any (λ g. nat_eq g.number m && same_oneof g.oneof o) fields) ≡ same_oneof (cond b g.oneof (oneof_at fields m)) o
    go true e more =
        let is = eqb-true g.number m e in
        let none : same_oneof (oneof_at fields m) o ≡ false = ap (λ x. same_oneof x o) (below_oneof g.number m fields (onward low g fields h) (omega (arith, is))) in
        ap (λ b. same_oneof g.oneof o || b) (more ∙ none) ∙ or_false (same_oneof g.oneof o)
    go false e more = more

abbrev pub oneof_or : Option Field → Option ℕ
oneof_or None = None
oneof_or (Some f) = f.oneof

pub oneof_of : (fields : List Field) (n : ℕ) → oneof_at fields n ≡ oneof_or (field_of fields n)
oneof_of [] n = refl
oneof_of (f ∷ fields) n = go (nat_eq f.number n) (oneof_of fields n)
  where
    go : (b : Bool) → oneof_at fields n ≡ oneof_or (field_of fields n) → cond b f.oneof (oneof_at fields n) ≡ oneof_or (cond b (Some f) (field_of fields n))
    go true e = refl
    go false e = e

pub sibling_is : (low : ℕ) (fields : List Field) (f : Field) (n m : ℕ) → rising low fields ≡ true → field_of fields n ≡ Some f → is_sibling fields f m ≡ (not (nat_eq m n) && same fields n m)
sibling_is low fields f n m h e =
    let is = field_number fields n f e in
    let oneof : oneof_at fields n ≡ f.oneof = oneof_of fields n ∙ ap oneof_or e in
    ap₂ (λ k b. not (nat_eq m k) && b) is (any_at low m f.oneof fields h ∙ (turned_oneof (oneof_at fields m) f.oneof ∙ ap (λ o. same_oneof o (oneof_at fields m)) (sym oneof)))

both_ways : (a b : Bool) → (a ≡ true → b ≡ true) → (b ≡ true → a ≡ true) → a ≡ b
both_ways true b there back = sym (there refl)
both_ways false true there back = back refl
both_ways false false there back = refl

each_passes : (test : Field → Bool) (fields : List Field) → ((f : Field) → test f ≡ true) → list_all test fields ≡ true
each_passes test [] h = refl
each_passes test (f ∷ fields) h = and_from _ _ (h f) (each_passes test fields h)

none_passes : (test : Field → Bool) (fields : List Field) → ((f : Field) → test f ≡ false) → list_any test fields ≡ false
none_passes test [] h = refl
none_passes test (f ∷ fields) h = ap₂ (λ a b. a || b) (h f) (none_passes test fields h)

-- a test of each field is one of each number
all_found : (test : Field → Bool) (low : ℕ) (fields : List Field) → rising low fields ≡ true → ((n : ℕ) (f : Field) → field_of fields n ≡ Some f → test f ≡ true) → list_all test fields ≡ true
all_found test low [] h each = refl
all_found test low (f ∷ fields) h each =
    and_from _ _ (each f.number f (ap (λ b. cond b (Some f) (field_of fields f.number)) (eq-eqb f.number f.number refl)))
    (all_found test f.number fields (onward low f fields h) (λ n g e. each n g (ap (λ b. cond b (Some f) (field_of fields n)) (ne_eqb f.number n (λ is. absurd (later n g e is))) ∙ e)))
  where
    later : (n : ℕ) (g : Field) → field_of fields n ≡ Some g → f.number ≡ n → ⊥
    later n g e is = let missing : None ≡ Some g = sym (below_none f.number n fields (onward low f fields h) (omega (arith, is))) ∙ e in cc

found_passes : (test : Field → Bool) (fields : List Field) (n : ℕ) (f : Field) → list_all test fields ≡ true → field_of fields n ≡ Some f → test f ≡ true
found_passes test [] n f h e = cc
found_passes test (g ∷ fields) n f h e =
    let (one, more) = and_parts (test g) (list_all test fields) h in
    go (nat_eq g.number n) e one (found_passes test fields n f more)
  where
    go : (b : Bool) → cond b (Some g) (field_of fields n) ≡ Some f → test g ≡ true → (field_of fields n ≡ Some f → test f ≡ true) → test f ≡ true
    go true e one more = ap test (ap (λ (o : Option Field). elim o [ None ↦ f | Some x ↦ x ]) (sym e)) ∙ one
    go false e one more = more e

found_fails : (test : Field → Bool) (fields : List Field) (n : ℕ) (f : Field) → list_any test fields ≡ false → field_of fields n ≡ Some f → test f ≡ false
found_fails test [] n f h e = cc
found_fails test (g ∷ fields) n f h e =
    let (one, more) = or_parts (test g) (list_any test fields) h in
    go (nat_eq g.number n) e one (found_fails test fields n f more)
  where
    go : (b : Bool) → cond b (Some g) (field_of fields n) ≡ Some f → test g ≡ false → (field_of fields n ≡ Some f → test f ≡ false) → test f ≡ false
    go true e one more = ap test (ap (λ (o : Option Field). elim o [ None ↦ f | Some x ↦ x ]) (sym e)) ∙ one
    go false e one more = more e

-- A WALK THAT GOES WELL

module _ (older newer : List Field) (up : rising 0 older ≡ true) (up' : rising 0 newer ≡ true) where
  apart : Joined older newer → (n m : ℕ) → n ≢ m → same older n m ≡ same newer n m
  apart j n m differ = both_ways (same older n m) (same newer n m) (carried older newer 0 up up' j.nexts n m differ) (carried newer older 0 up' up (λ k. sym (j.nexts k)) n m differ)

  joined_alike : Joined older newer → list_all (has_alike older newer) older ≡ true
  joined_alike j = all_found (has_alike older newer) 0 older up (λ n f e. alike_at n f e (field_of newer f.number) refl (j.likes f.number))
    where
      guarded : (n m : ℕ) (b : Bool) → nat_eq m n ≡ b → beq (not b && same older n m) (not b && same newer n m) ≡ true
      guarded n m true e = refl
      guarded n m false e = equal (same older n m) (same newer n m) (apart j n m (λ s. eqb-false m n e (sym s)))
        where
          equal : (a b : Bool) → a ≡ b → beq a b ≡ true
          equal true true h = refl
          equal false false h = refl
          equal true false h = absurd (true≢false h)
          equal false true h = absurd (true≢false (sym h))

      alike_at : (n : ℕ) (f : Field) → field_of older n ≡ Some f → (o : Option Field) → field_of newer f.number ≡ o → alike_or (field_of older f.number) (field_of newer f.number) ≡ true → passes o (λ g. fields_alike f g && same_siblings older newer f g) ≡ true
      alike_at n f e None is h = absurd (true≢false (sym h ∙ ap₂ alike_or (ap (field_of older) (field_number older n f e) ∙ e) is))
      alike_at n f e (Some g) is h =
          let here : field_of older f.number ≡ Some f = ap (field_of older) (field_number older n f e) ∙ e in
          and_from _ _ (sym (ap₂ alike_or here is) ∙ h)
          (each_passes (λ h. beq (is_sibling older f h.number) (is_sibling newer g h.number)) older
          (λ h. ap₂ beq (sibling_is 0 older f f.number h.number up here) (sibling_is 0 newer g f.number h.number up' is) ∙ guarded f.number h.number (nat_eq h.number f.number) refl))

  joined_alone : Joined older newer → list_all (has_no_fellow older newer) newer ≡ true
  joined_alone j = all_found (has_no_fellow older newer) 0 newer up' (λ n g e. alone_at n g e (field_of older g.number) refl)
    where
      none_beside : (o : Option ℕ) → same_oneof None o ≡ false
      none_beside o = refl

      guarded : (n m : ℕ) (b : Bool) → nat_eq m n ≡ b → field_of older n ≡ None → (not b && same newer n m) ≡ false
      guarded n m true e missing = refl
      guarded n m false e missing = sym (apart j n m (λ s. eqb-false m n e (sym s))) ∙ ap (λ o. same_oneof o (oneof_at older m)) (oneof_of older n ∙ ap oneof_or missing)

      alone_at : (n : ℕ) (g : Field) → field_of newer n ≡ Some g → (o : Option Field) → field_of older g.number ≡ o → (passes o (λ f. true) || not (list_any (λ h. is_sibling newer g h.number) newer)) ≡ true
      alone_at n g e (Some f) is = refl
      alone_at n g e None is =
          let here : field_of newer g.number ≡ Some g = ap (field_of newer) (field_number newer n g e) ∙ e in
          ap not (none_passes (λ h. is_sibling newer g h.number) newer (λ h. sibling_is 0 newer g g.number h.number up' here ∙ guarded g.number h.number (nat_eq h.number g.number) refl is))

  -- AND BACK
  known_at : (fields : List Field) (n : ℕ) (o : Option ℕ) (p : Option Field) → field_of fields n ≡ p → same_oneof (oneof_at fields n) o ≡ true → (f : Field) × (field_of fields n ≡ Some f)
  known_at fields n o None e s = absurd (true≢false (sym s ∙ ap (λ x. same_oneof x o) (oneof_of fields n ∙ ap oneof_or e)))
  known_at fields n o (Some f) e s = (f, e)

  like_of : (n : ℕ) (f : Field) → list_all (has_alike older newer) older ≡ true → field_of older n ≡ Some f → (g : Field) × ((field_of newer n ≡ Some g) × ((fields_alike f g ≡ true) × (same_siblings older newer f g ≡ true)))
  like_of n f all e = go (field_of newer n) refl (ap (λ k. passes (field_of newer k) (λ g. fields_alike f g && same_siblings older newer f g)) (sym (field_number older n f e)) ∙ found_passes (has_alike older newer) older n f all e)
    where
      go : (o : Option Field) → field_of newer n ≡ o → passes o (λ g. fields_alike f g && same_siblings older newer f g) ≡ true → (g : Field) × ((field_of newer n ≡ Some g) × ((fields_alike f g ≡ true) × (same_siblings older newer f g ≡ true)))
      go None is h = absurd (true≢false (sym h))
      go (Some g) is h = (g, (is, and_parts (fields_alike f g) (same_siblings older newer f g) h))

  known_same : list_all (has_alike older newer) older ≡ true → (n m : ℕ) (f h : Field) → n ≢ m → field_of older n ≡ Some f → field_of older m ≡ Some h → same older n m ≡ same newer n m
  known_same all n m f h differ e d =
      let (g, (is, (alike, siblings))) = like_of n f all e in
      let one : beq (is_sibling older f h.number) (is_sibling newer g h.number) ≡ true = found_passes (λ h. beq (is_sibling older f h.number) (is_sibling newer g h.number)) older m h siblings d in
      let at : beq (is_sibling older f m) (is_sibling newer g m) ≡ true = ap (λ k. beq (is_sibling older f k) (is_sibling newer g k)) (sym (field_number older m h d)) ∙ one in
      let off : nat_eq m n ≡ false = ne_eqb m n (λ s. differ (sym s)) in
      let left : is_sibling older f m ≡ same older n m = sibling_is 0 older f n m up e ∙ ap (λ b. not b && same older n m) off in
      let right : is_sibling newer g m ≡ same newer n m = sibling_is 0 newer g n m up' is ∙ ap (λ b. not b && same newer n m) off in
      sym left ∙ (sym (beq_same (is_sibling older f m) (is_sibling newer g m) at) ∙ right)

  -- a member of the newer type's oneof that has a sibling is known to the older type
  known_member : list_all (has_no_fellow older newer) newer ≡ true → (n m : ℕ) → n ≢ m → same newer n m ≡ true → (f : Field) × (field_of older n ≡ Some f)
  known_member alone n m differ s =
      let (g, e) = known_at newer n (oneof_at newer m) (field_of newer n) refl s in
      let (h, d) = known_at newer m (oneof_at newer n) (field_of newer m) refl (turned_oneof (oneof_at newer m) (oneof_at newer n) ∙ s) in
      go g h e d (field_of older n) refl
    where
      go : (g h : Field) → field_of newer n ≡ Some g → field_of newer m ≡ Some h → (o : Option Field) → field_of older n ≡ o → (f : Field) × (field_of older n ≡ Some f)
      go g h e d (Some f) is = (f, is)
      go g h e d None is =
          let missing : field_of older g.number ≡ None = ap (field_of older) (field_number newer n g e) ∙ is in
          let asked : (is_known older g.number || not (list_any (λ h. is_sibling newer g h.number) newer)) ≡ true = found_passes (has_no_fellow older newer) newer n g alone e in
          let none : list_any (λ h. is_sibling newer g h.number) newer ≡ false = no_more (list_any (λ h. is_sibling newer g h.number) newer) (sym (ap (λ o. passes o (λ f. true) || not (list_any (λ h. is_sibling newer g h.number) newer)) missing) ∙ asked) in
          let off : nat_eq m n ≡ false = ne_eqb m n (λ s. differ (sym s)) in
          let here : is_sibling newer g m ≡ true = sibling_is 0 newer g n m up' e ∙ (ap (λ b. not b && same newer n m) off ∙ s) in
          absurd (true≢false (sym here ∙ (ap (is_sibling newer g) (sym (field_number newer m h d)) ∙ found_fails (λ h. is_sibling newer g h.number) newer m h none d)))
        where
          no_more : (b : Bool) → (false || not b) ≡ true → b ≡ false
          no_more true k = absurd (true≢false (sym k))
          no_more false k = refl

  all_joined : list_all (has_alike older newer) older ≡ true → list_all (has_no_fellow older newer) newer ≡ true → Joined older newer
  all_joined all alone = record { likes = λ n. like n (field_of older n) refl; nexts = nexts_same older newer 0 up up' there back }
    where
      like : (n : ℕ) (o : Option Field) → field_of older n ≡ o → alike_or o (field_of newer n) ≡ true
      like n None e = refl
      like n (Some f) e = let (g, (is, (alike, siblings))) = like_of n f all e in ap (alike_or (Some f)) is ∙ alike

      there : (n m : ℕ) → n ≢ m → same older n m ≡ true → same newer n m ≡ true
      there n m differ s =
          let (f, e) = known_at older n (oneof_at older m) (field_of older n) refl s in
          let (h, d) = known_at older m (oneof_at older n) (field_of older m) refl (turned_oneof (oneof_at older m) (oneof_at older n) ∙ s) in
          sym (known_same all n m f h differ e d) ∙ s

      back : (n m : ℕ) → n ≢ m → same newer n m ≡ true → same older n m ≡ true
      back n m differ s =
          let (f, e) = known_member alone n m differ s in
          let (h, d) = known_member alone m n (λ k. differ (sym k)) (turned_oneof (oneof_at newer m) (oneof_at newer n) ∙ s) in
          known_same all n m f h differ e d ∙ s

  -- the walk says what is asked of the fields
  pub merged_is : merged older newer ≡ (list_all (has_alike older newer) older && list_all (has_no_fellow older newer) newer)
  merged_is = both_ways (merged older newer) (list_all (has_alike older newer) older && list_all (has_no_fellow older newer) newer)
      (λ m. let j = merged_joins 0 older newer up' m in and_from _ _ (joined_alike j) (joined_alone j))
      (λ c. let (all, alone) = and_parts (list_all (has_alike older newer) older) (list_all (has_no_fellow older newer) newer) c in joins_merged 0 0 older newer up up' (all_joined all alone))
