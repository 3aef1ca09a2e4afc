-- Tests, and what they say of the elements of lists.
use Rattle.std.specs.Prelude.{◌≡◌, ◌||◌, ◌∷◌, ◌++◌}
use Rattle.prost_reflect_wire.proofs.Common.{Bool, true, false, cond, List, [], filter, Option, Some, None, refl, ap, sym, ◌∙◌, true≢false, list_all, and_parts, and_from, passes, last}
use Rattle.std.specs.Bool.{beq}

pub or_case : (a b c d : Bool) → (a ≡ true → c ≡ true) → (b ≡ true → d ≡ true) → (a || b) ≡ true → (c || d) ≡ true
or_case true b c d h k e = ap (λ x. x || d) (h refl)
or_case false b true d h k e = refl
or_case false b false d h k e = k e

pub beq_same : (a b : Bool) → beq a b ≡ true → b ≡ a
beq_same true true h = refl
beq_same false false h = refl
beq_same _ _ h = absurd (true≢false (sym h))

pub passes_more : {A : Type 0} (o : Option A) (t u : A → Bool) → ((x : A) → t x ≡ true → u x ≡ true) → passes o t ≡ true → passes o u ≡ true
passes_more None t u h e = e
passes_more (Some x) t u h e = h x e

pub all_append : {A : Type 0} (t : A → Bool) (xs ys : List A) → list_all t xs ≡ true → list_all t ys ≡ true → list_all t (xs ++ ys) ≡ true
all_append t [] ys h k = k
all_append t (x ∷ xs) ys h k =
    let (one, more) = and_parts (t x) (list_all t xs) h in
    and_from _ _ one (all_append t xs ys more k)

pub all_filter : {A : Type 0} (t u : A → Bool) (xs : List A) → list_all t xs ≡ true → list_all t (filter u xs) ≡ true
all_filter t u [] h = refl
all_filter t u (x ∷ xs) h =
    let (one, more) = and_parts (t x) (list_all t xs) h in
    go (u x) one (all_filter t u xs more)
  where
    go : (b : Bool) → t x ≡ true → list_all t (filter u xs) ≡ true → list_all t (cond b (x ∷ filter u xs) (filter u xs)) ≡ true
    go true one more = and_from _ _ one more
    go false one more = more

pub all_implied : {A : Type 0} (t u : A → Bool) (xs : List A) → ((x : A) → t x ≡ true → u x ≡ true) → list_all t xs ≡ true → list_all u xs ≡ true
all_implied t u [] h k = refl
all_implied t u (x ∷ xs) h k =
    let (one, more) = and_parts (t x) (list_all t xs) k in
    and_from _ _ (h x one) (all_implied t u xs h more)

-- what is left by a test passes it
pub filter_passes : {A : Type 0} (test : A → Bool) (xs : List A) → list_all test (filter test xs) ≡ true
filter_passes test [] = refl
filter_passes test (x ∷ xs) = go (test x) refl (filter_passes test xs)
  where
    go : (b : Bool) → test x ≡ b → list_all test (filter test xs) ≡ true → list_all test (cond b (x ∷ filter test xs) (filter test xs)) ≡ true
    go true e more = and_from _ _ e more
    go false e more = more

-- what all pass, the last passes
pub last_passes : {A : Type 0} (test : A → Bool) (x : A) (xs : List A) → list_all test xs ≡ true → last xs ≡ Some x → test x ≡ true
last_passes test x [] h e = cc
last_passes test x (y ∷ []) h e = ap test (ap (λ o. elim o [ None ↦ x | Some z ↦ z ]) (sym e)) ∙ (and_parts (test y) true h).0
last_passes test x (y ∷ z ∷ xs) h e = last_passes test x (z ∷ xs) (and_parts (test y) (list_all test (z ∷ xs)) h).1 e
