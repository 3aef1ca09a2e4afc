-- The items below a number: what a walk down has left in front of its last number.
use Rattle.std.specs.Prelude.{◌≡◌, ◌∷◌, ◌++◌}
use Rattle.prost_reflect_maps.proofs.Common.{true, false, Bool, cond, ℕ, List, [], nat_lt, None, Some, ap, ap₂, sym, ◌∙◌, subst, refl, arith, common_steps, true≢false, none-some, same_Some, nat_cmp, is_eq, exact_unsigned, Ordering, Less, Equal, Greater, AllByRecursion, IsStrictlySortedBy, keys_of, last, IsAscending, item_at, items_above, items_below, last_below}
use Rattle.prost_reflect_maps.proofs.Weaving.{AllAbove}
use Rattle.prost_reflect_maps.proofs.Bounds.{below_above, below_greater}
use Rattle.prost_reflect_maps.proofs.Above.{less_lt, not_itself}

none_on : {A : Type 0} (b : Bool) (x : A) (xs : List A) → cond b (x ∷ xs) xs ≡ [] → (b ≡ false) × (xs ≡ [])
none_on true x xs h = absurd cc
none_on false x xs h = (refl, h)

module _ {T : Type 0} where
  pub none_last : (xs : List (ℕ × T)) → last xs ≡ None → xs ≡ []
  none_last [] h = refl
  none_last (x ∷ []) h = absurd cc
  none_last (x ∷ y ∷ xs) h = absurd (some_last y xs h)
    where
      some_last : (y : ℕ × T) (xs : List (ℕ × T)) → last (y ∷ xs) ≡ None → ⊥
      some_last y [] h = cc
      some_last y (z ∷ xs) h = some_last z xs h

  pub none_below : (n : ℕ) (es : List (ℕ × T)) → last_below es n ≡ None → items_below es n ≡ []
  none_below n es h = none_last (items_below es n) h

  all_below : (P : ℕ → Type 0) (n : ℕ) (es : List (ℕ × T)) → AllByRecursion P (keys_of es) → AllByRecursion P (keys_of (items_below es n))
  all_below P n [] all = tt
  all_below P n (x ∷ xs) all = cases (nat_lt x.0 n) (all_below P n xs all.1)
    where
      cases : (b : Bool) → AllByRecursion P (keys_of (items_below xs n)) → AllByRecursion P (keys_of (cond b (x ∷ items_below xs n) (items_below xs n)))
      cases true rest = (all.0, rest)
      cases false rest = rest

  last_above : (m : ℕ) (xs : List (ℕ × T)) (e : ℕ × T) → AllAbove m xs → last xs ≡ Some e → nat_cmp m e.0 ≡ Less
  last_above m [] e all h = absurd cc
  last_above m (z ∷ []) e all h = subst (λ z. nat_cmp m z.0 ≡ Less) (same_Some z e h) all.0
  last_above m (z ∷ w ∷ xs) e all h = last_above m (w ∷ xs) e all.1 h

  above_larger : (n m : ℕ) (es : List (ℕ × T)) → nat_lt m n ≡ false → AllAbove m es → AllAbove n es
  above_larger n m [] h all = tt
  above_larger n m (e ∷ es) h all = (grind (arith, common_steps, h, all.0), above_larger n m es h all.1)

  -- the last item below a number, behind those below it
  pub then_below : (n : ℕ) (es : List (ℕ × T)) (e : ℕ × T) → IsAscending es → last_below es n ≡ Some e → items_below es n ≡ items_below es e.0 ++ e ∷ []
  unfolding IsStrictlySortedBy
  then_below n [] e s h = absurd cc
  then_below n (x ∷ xs) e s h = cases (nat_lt x.0 n) refl h (then_below n xs e s.1)
    where
      further : (ys : List (ℕ × T)) → items_below xs n ≡ ys → last (x ∷ ys) ≡ Some e → (last_below xs n ≡ Some e → items_below xs n ≡ items_below xs e.0 ++ e ∷ []) → x ∷ items_below xs n ≡ cond (nat_lt x.0 e.0) (x ∷ items_below xs e.0) (items_below xs e.0) ++ e ∷ []
      further [] is h rest =
          ap (λ l. x ∷ l) is
          ∙ ap (λ l. l ++ x ∷ []) (sym (ap (λ b. cond b (x ∷ items_below xs x.0) (items_below xs x.0)) (not_itself x.0) ∙ below_above x.0 xs s.0))
          ∙ ap (λ (z : ℕ × T). cond (nat_lt x.0 z.0) (x ∷ items_below xs z.0) (items_below xs z.0) ++ z ∷ []) (same_Some x e h)
      further (y ∷ ys) is h rest =
          let under : last_below xs n ≡ Some e = ap last is ∙ h in
          ap (λ l. x ∷ l) (rest under)
          ∙ ap (λ b. cond b (x ∷ items_below xs e.0) (items_below xs e.0) ++ e ∷ []) (sym (less_lt x.0 e.0 (last_above x.0 (items_below xs n) e (all_below (λ y. nat_cmp x.0 y ≡ Less) n xs s.0) under)))

      cases : (b : Bool) → nat_lt x.0 n ≡ b → last (cond b (x ∷ items_below xs n) (items_below xs n)) ≡ Some e → (last_below xs n ≡ Some e → items_below xs n ≡ items_below xs e.0 ++ e ∷ [])
          → cond b (x ∷ items_below xs n) (items_below xs n) ≡ cond (nat_lt x.0 e.0) (x ∷ items_below xs e.0) (items_below xs e.0) ++ e ∷ []
      cases true at h rest = further (items_below xs n) refl h rest
      cases false at h rest = absurd (none-some e (sym (ap last (below_above n xs (above_larger n x.0 xs at s.0))) ∙ h))

  -- the last item, behind those below it
  pub then_before : (es : List (ℕ × T)) (e : ℕ × T) → IsAscending es → last es ≡ Some e → es ≡ items_below es e.0 ++ e ∷ []
  unfolding IsStrictlySortedBy
  then_before [] e s h = absurd cc
  then_before (x ∷ []) e s h =
      let is : x ≡ e = same_Some x e h in
      ap (λ (z : ℕ × T). z ∷ []) is ∙ ap (λ b. cond b (x ∷ []) [] ++ e ∷ []) (sym (subst (λ z. nat_lt x.0 z.0 ≡ false) is (not_itself x.0)))
  then_before (x ∷ y ∷ xs) e s h =
      ap (λ l. x ∷ l) (then_before (y ∷ xs) e s.1 h)
      ∙ ap (λ b. cond b (x ∷ items_below (y ∷ xs) e.0) (items_below (y ∷ xs) e.0) ++ e ∷ []) (sym (less_lt x.0 e.0 (last_above x.0 (y ∷ xs) e s.0 h)))

  -- WHERE NOTHING STANDS ABOVE A NUMBER

  -- the item at it is the last one
  pub largest : (m : ℕ) (es : List (ℕ × T)) (t : T) → IsAscending es → items_above es m ≡ [] → item_at es m ≡ Some t → last es ≡ Some (m, t)
  unfolding IsStrictlySortedBy
  largest m [] t s none h = absurd cc
  largest m (x ∷ []) t s none h = cases (nat_cmp m x.0) refl h
    where
      cases : (o : Ordering) → nat_cmp m x.0 ≡ o → cond (is_eq o) (Some x.1) None ≡ Some t → Some x ≡ Some (m, t)
      cases Less at h = absurd cc
      cases Equal at h = ap₂ (λ n z. Some (n, z)) (sym (exact_unsigned m x.0 at)) (same_Some x.1 t h)
      cases Greater at h = absurd cc
  largest m (x ∷ y ∷ xs) t s none h =
      let parts = none_on (nat_lt m x.0) x (items_above (y ∷ xs) m) none in
      let second = none_on (nat_lt m y.0) y (items_above xs m) parts.1 in
      let apart : is_eq (nat_cmp m x.0) ≡ false = grind (arith, common_steps, second.0, s.0.0) in
      largest m (y ∷ xs) t s.1 parts.1 (ap (λ b. cond b (Some x.1) (item_at (y ∷ xs) m)) (sym apart) ∙ h)

  -- and without one all are below it
  pub all_smaller : (m : ℕ) (es : List (ℕ × T)) → items_above es m ≡ [] → item_at es m ≡ None → items_below es m ≡ es
  all_smaller m [] none h = refl
  all_smaller m (x ∷ xs) none h = cases (nat_cmp m x.0) refl h (all_smaller m xs)
    where
      parts : (nat_lt m x.0 ≡ false) × (items_above xs m ≡ [])
      parts = none_on (nat_lt m x.0) x (items_above xs m) none

      cases : (o : Ordering) → nat_cmp m x.0 ≡ o → cond (is_eq o) (Some x.1) (item_at xs m) ≡ None → (items_above xs m ≡ [] → item_at xs m ≡ None → items_below xs m ≡ xs) → cond (nat_lt x.0 m) (x ∷ items_below xs m) (items_below xs m) ≡ x ∷ xs
      cases Less at h rest = absurd (true≢false (sym (less_lt m x.0 at) ∙ parts.0))
      cases Equal at h rest = absurd (none-some x.1 (sym h))
      cases Greater at h rest = ap₂ (λ b l. cond b (x ∷ l) (items_below xs m)) (below_greater m x.0 at) (rest parts.1 h)
