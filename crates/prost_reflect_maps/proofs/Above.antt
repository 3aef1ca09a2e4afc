-- The items above a number: what a walk up has left behind its last number.
use Rattle.std.specs.Prelude.{◌≡◌, ◌≢◌, ◌∷◌}
use Rattle.prost_reflect_maps.proofs.Common.{true, false, Bool, cond, ℕ, List, [], nat_le, nat_lt, None, Some, ap, ap₂, sym, ◌∙◌, subst, refl, arith, common_steps, true≢false, same_Some, slice_get, nat_cmp, Less, AllByRecursion, IsStrictlySortedBy, keys_of, IsAscending, items_from, items_above, first_above, first_from}
use Rattle.prost_reflect_maps.proofs.Weaving.{AllAbove}

pub less_lt : (n k : ℕ) → nat_cmp n k ≡ Less → nat_lt n k ≡ true
less_lt n k at = grind (arith, common_steps, at)

pub not_itself : (n : ℕ) → nat_lt n n ≡ false
not_itself n = grind (arith, common_steps)

all_from_zero : (n : ℕ) → nat_le 0 n ≡ true
all_from_zero n = grind (arith, common_steps)

none_first : {A : Type 0} (xs : List A) → slice_get xs 0 ≡ None → xs ≡ []
none_first [] h = refl
none_first (x ∷ xs) h = absurd cc

module _ {T : Type 0} where
  -- of those above a number all are above it
  above_all : (n : ℕ) (es : List (ℕ × T)) → AllAbove n es → items_above es n ≡ es
  above_all n [] all = refl
  above_all n (e ∷ es) all = ap₂ (λ b l. cond b (e ∷ l) (items_above es n)) (less_lt n e.0 all.0) (above_all n es all.1)

  -- behind the first item come those above it
  behind_first : (e : ℕ × T) (es : List (ℕ × T)) → IsAscending (e ∷ es) → items_above (e ∷ es) e.0 ≡ es
  unfolding IsStrictlySortedBy
  behind_first e es s = ap (λ b. cond b (e ∷ items_above es e.0) (items_above es e.0)) (not_itself e.0) ∙ above_all e.0 es s.0

  above_later : (n m : ℕ) (es : List (ℕ × T)) → nat_lt n m ≡ true → AllAbove m es → AllAbove n es
  above_later n m [] h all = tt
  above_later n m (e ∷ es) h all = (grind (arith, common_steps, h, all.0), above_later n m es h all.1)

  is_above : (n : ℕ) (es : List (ℕ × T)) (e : ℕ × T) → first_above es n ≡ Some e → nat_lt n e.0 ≡ true
  is_above n [] e h = absurd cc
  is_above n (x ∷ xs) e h = cases (nat_lt n x.0) refl h (is_above n xs e)
    where
      cases : (b : Bool) → nat_lt n x.0 ≡ b → slice_get (cond b (x ∷ items_above xs n) (items_above xs n)) 0 ≡ Some e → (first_above xs n ≡ Some e → nat_lt n e.0 ≡ true) → nat_lt n e.0 ≡ true
      cases true at h rest = subst (λ z. nat_lt n z.0 ≡ true) (same_Some x e h) at
      cases false at h rest = rest h

  -- the first item above a number, and then those above it
  pub then_above : (n : ℕ) (es : List (ℕ × T)) (e : ℕ × T) → IsAscending es → first_above es n ≡ Some e → items_above es n ≡ e ∷ items_above es e.0
  unfolding IsStrictlySortedBy
  then_above n [] e s h = absurd cc
  then_above n (x ∷ xs) e s h = cases (nat_lt n x.0) refl h (then_above n xs e s.1) (is_above n xs e)
    where
      cases : (b : Bool) → nat_lt n x.0 ≡ b → slice_get (cond b (x ∷ items_above xs n) (items_above xs n)) 0 ≡ Some e
          → (first_above xs n ≡ Some e → items_above xs n ≡ e ∷ items_above xs e.0) → (first_above xs n ≡ Some e → nat_lt n e.0 ≡ true)
          → cond b (x ∷ items_above xs n) (items_above xs n) ≡ e ∷ cond (nat_lt e.0 x.0) (x ∷ items_above xs e.0) (items_above xs e.0)
      cases true at h rest is =
          ap (λ l. x ∷ l) (above_all n xs (above_later n x.0 xs at s.0))
          ∙ ap (λ l. x ∷ l) (sym (behind_first x xs s))
          ∙ ap (λ (z : ℕ × T). z ∷ items_above (x ∷ xs) z.0) (same_Some x e h)
      cases false at h rest is =
          let past : nat_lt e.0 x.0 ≡ false = grind (arith, common_steps, at, is h) in
          rest h ∙ ap (λ b. e ∷ cond b (x ∷ items_above xs e.0) (items_above xs e.0)) (sym past)

  pub none_above : (n : ℕ) (es : List (ℕ × T)) → first_above es n ≡ None → items_above es n ≡ []
  none_above n es h = none_first (items_above es n) h

  -- a first item above a number is not one that is not above it
  pub not_above : {P : Type 0} (es : List (ℕ × T)) (n : ℕ) (e : ℕ × T) → first_above es n ≡ Some e → nat_lt n e.0 ≡ false → P
  not_above es n e h f = absurd (true≢false (sym (is_above n es e h) ∙ f))

  -- WHERE A WALK BEGINS

  from_zero : (es : List (ℕ × T)) → items_from es 0 ≡ es
  from_zero [] = refl
  from_zero (e ∷ es) = ap₂ (λ b l. cond b (e ∷ l) (items_from es 0)) (all_from_zero e.0) (from_zero es)

  first_of : (es : List (ℕ × T)) (e : ℕ × T) → IsAscending es → slice_get es 0 ≡ Some e → es ≡ e ∷ items_above es e.0
  first_of [] e s h = absurd cc
  first_of (x ∷ xs) e s h = ap (λ l. x ∷ l) (sym (behind_first x xs s)) ∙ ap (λ (z : ℕ × T). z ∷ items_above (x ∷ xs) z.0) (same_Some x e h)

  -- the first item of all, and then those above it
  pub then_all : (es : List (ℕ × T)) (e : ℕ × T) → IsAscending es → first_from es 0 ≡ Some e → es ≡ e ∷ items_above es e.0
  then_all es e s h = first_of es e s (ap (λ l. slice_get l 0) (sym (from_zero es)) ∙ h)

  pub none_at_all : (es : List (ℕ × T)) → first_from es 0 ≡ None → es ≡ []
  none_at_all es h = sym (from_zero es) ∙ none_first (items_from es 0) h

  -- FROM A NUMBER ON, AND ABOVE IT

  above_from : (n : ℕ) (es : List (ℕ × T)) → items_above es n ≡ items_above (items_from es n) n
  above_from n [] = refl
  above_from n (x ∷ xs) = cases (nat_le n x.0) refl (nat_lt n x.0) refl (above_from n xs)
    where
      cases : (b : Bool) → nat_le n x.0 ≡ b → (a : Bool) → nat_lt n x.0 ≡ a → items_above xs n ≡ items_above (items_from xs n) n
          → cond a (x ∷ items_above xs n) (items_above xs n) ≡ items_above (cond b (x ∷ items_from xs n) (items_from xs n)) n
      cases true is a at rest = ap₂ (λ a l. cond a (x ∷ l) l) (sym at) rest
      cases false is true at rest = absurd (true≢false (grind (arith, common_steps, is, at)))
      cases false is false at rest = rest

  first_is_from : (n : ℕ) (es : List (ℕ × T)) (e : ℕ × T) → first_from es n ≡ Some e → nat_le n e.0 ≡ true
  first_is_from n [] e h = absurd cc
  first_is_from n (x ∷ xs) e h = cases (nat_le n x.0) refl h (first_is_from n xs e)
    where
      cases : (b : Bool) → nat_le n x.0 ≡ b → slice_get (cond b (x ∷ items_from xs n) (items_from xs n)) 0 ≡ Some e → (first_from xs n ≡ Some e → nat_le n e.0 ≡ true) → nat_le n e.0 ≡ true
      cases true at h rest = subst (λ z. nat_le n z.0 ≡ true) (same_Some x e h) at
      cases false at h rest = rest h

  -- where the first item from the number on is another number's, it is the first one above it
  pub other_first : (n : ℕ) (es rest : List (ℕ × T)) (e : ℕ × T) → items_from es n ≡ e ∷ rest → e.0 ≢ n → first_above es n ≡ Some e
  other_first n es rest e is other =
      let from : nat_le n e.0 ≡ true = first_is_from n es e (ap (λ l. slice_get l 0) is) in
      let past : nat_lt n e.0 ≡ true = grind (arith, common_steps, from, other) in
      ap (λ l. slice_get l 0) (above_from n es ∙ ap (λ l. items_above l n) is) ∙ ap (λ b. slice_get (cond b (e ∷ items_above rest n) (items_above rest n)) 0) past

  -- and where it is that of the number, the one behind it is
  same_first : (n : ℕ) (es rest : List (ℕ × T)) (e : ℕ × T) → items_from es n ≡ e ∷ rest → AllAbove e.0 rest → e.0 ≡ n → first_above es n ≡ slice_get rest 0
  same_first n es rest e is all same =
      ap (λ l. slice_get l 0) (above_from n es ∙ ap (λ l. items_above l n) is)
      ∙ ap (λ b. slice_get (cond b (e ∷ items_above rest n) (items_above rest n)) 0) (subst (λ z. nat_lt z e.0 ≡ false) same (not_itself e.0))
      ∙ ap (λ l. slice_get l 0) (above_all n rest (subst (λ z. AllAbove z rest) same all))

  all_from : (P : ℕ → Type 0) (n : ℕ) (es : List (ℕ × T)) → AllByRecursion P (keys_of es) → AllByRecursion P (keys_of (items_from es n))
  all_from P n [] all = tt
  all_from P n (x ∷ xs) all = cases (nat_le n x.0) (all_from P n xs all.1)
    where
      cases : (b : Bool) → AllByRecursion P (keys_of (items_from xs n)) → AllByRecursion P (keys_of (cond b (x ∷ items_from xs n) (items_from xs n)))
      cases true rest = (all.0, rest)
      cases false rest = rest

  ascending_from : (n : ℕ) (es : List (ℕ × T)) → IsAscending es → IsAscending (items_from es n)
  unfolding IsStrictlySortedBy
  ascending_from n [] s = s
  ascending_from n (x ∷ xs) s = cases (nat_le n x.0) (ascending_from n xs s.1)
    where
      cases : (b : Bool) → IsAscending (items_from xs n) → IsAscending (cond b (x ∷ items_from xs n) (items_from xs n))
      cases true rest = (all_from (λ y. nat_cmp x.0 y ≡ Less) n xs s.0, rest)
      cases false rest = rest

  pub behind_same : (n : ℕ) (es rest : List (ℕ × T)) (e : ℕ × T) → IsAscending es → items_from es n ≡ e ∷ rest → e.0 ≡ n → first_above es n ≡ slice_get rest 0
  unfolding IsStrictlySortedBy
  behind_same n es rest e s is same = same_first n es rest e is (subst IsAscending is (ascending_from n es s)).0 same

  pub nothing_from : (n : ℕ) (es : List (ℕ × T)) → items_from es n ≡ [] → first_above es n ≡ None
  nothing_from n es is = ap (λ l. slice_get l 0) (above_from n es ∙ ap (λ l. items_above l n) is)
