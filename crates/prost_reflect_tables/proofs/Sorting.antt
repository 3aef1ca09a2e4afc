-- Two lists in ascending order of numbers, in which equal numbers stand in one order, are one list.
use Rattle.std.specs.Prelude.{◌≡◌, ◌≢◌, ◌<◌, ◌≤◌, ◌&&◌, ◌∷◌}
use Rattle.prost_reflect_tables.proofs.Common.{ℕ, suc, Bool, true, false, cond, not, List, [], map, length, get_or, refl, sym, ap, ◌∙◌, arith, ⊎_elim, nat_le, nat_eq, filter, IsNonDecreasingBy, IsStableByKey, ties, nat_cmp, is_lt, cases_lt, eq-eqb, ne_eqb, eqb-true, FieldTable, FieldRow, field_row, put_in_order, in_order}
use Rattle.prost_reflect_laws.proofs.Alike.{filter_alike}
use Rattle.prost_reflect_tables.proofs.Orders.{cons_none, same_head, same_tail}

-- Each number is at least that of the item in front of it.
abbrev pub Rising : {X : Type 0} → (X → ℕ) → ℕ → List X → Type 0
Rising n low [] = Unit {0}
Rising n low (x ∷ xs) = (low ≤ n x) × Rising n (n x) xs

-- Those of one number.
abbrev pub with_number : {X : Type 0} → (X → ℕ) → ℕ → List X → List X
with_number n k xs = filter (λ x. nat_eq (n x) k) xs

pub lower_start : {X : Type 0} (n : X → ℕ) (low high : ℕ) (xs : List X) → low ≤ high → Rising n high xs → Rising n low xs
lower_start n low high [] le h = tt
lower_start n low high (x ∷ xs) le h = (omega (arith, h.0), h.1)

-- No number below the first one stands in the list.
none_below : {X : Type 0} (n : X → ℕ) (k low : ℕ) (xs : List X) → k < low → Rising n low xs → with_number n k xs ≡ []
none_below n k low [] less h = refl
none_below n k low (x ∷ xs) less h =
    let other : n x ≢ k = λ same. absurd (omega (arith, h.0)) in
    rw (ne_eqb (n x) k other) (none_below n k (n x) xs (omega (arith, h.0)) h.1)

first_there : {X : Type 0} (n : X → ℕ) (x : X) (xs : List X) → with_number n (n x) (x ∷ xs) ≡ x ∷ with_number n (n x) xs
first_there n x xs = rw (eq-eqb (n x) (n x) refl) refl

-- Behind equal items the items of each number are equal too.
tails_alike : {X : Type 0} (n : X → ℕ) (x : X) (xs ys : List X) → ((k : ℕ) → with_number n k (x ∷ xs) ≡ with_number n k (x ∷ ys)) → (k : ℕ) → with_number n k xs ≡ with_number n k ys
tails_alike n x xs ys h k = go (nat_eq (n x) k) (h k)
  where
    go : (b : Bool) → cond b (x ∷ with_number n k xs) (with_number n k xs) ≡ cond b (x ∷ with_number n k ys) (with_number n k ys) → with_number n k xs ≡ with_number n k ys
    go true e = same_tail x x (with_number n k xs) (with_number n k ys) e
    go false e = e

first_alike : {X : Type 0} (n : X → ℕ) (x y : X) (xs ys : List X) → Rising n (n x) xs → Rising n (n y) ys → ((k : ℕ) → with_number n k (x ∷ xs) ≡ with_number n k (y ∷ ys)) → x ≡ y
first_alike n x y xs ys up rise h = ⊎_elim
    (λ (less : n x < n y). absurd (cons_none x (with_number n (n x) xs) (sym (first_there n x xs) ∙ (h (n x) ∙ none_below n (n x) (n y) (y ∷ ys) less (omega arith, rise)))))
    (λ (le : n y ≤ n x). ⊎_elim
    (λ (more : n y < n x). absurd (cons_none y (with_number n (n y) ys) (sym (first_there n y ys) ∙ (sym (h (n y)) ∙ none_below n (n y) (n x) (x ∷ xs) more (omega arith, up)))))
    (λ (ge : n x ≤ n y). let same : n y ≡ n x = omega arith in same_head x y (with_number n (n x) xs) (with_number n (n y) ys) (sym (first_there n x xs) ∙ (h (n x) ∙ (ap (λ k. with_number n k (y ∷ ys)) (sym same) ∙ first_there n y ys))))
    (cases_lt (n y) (n x)))
    (cases_lt (n x) (n y))

pub one_order : {X : Type 0} (n : X → ℕ) (xs ys : List X) → Rising n 0 xs → Rising n 0 ys → ((k : ℕ) → with_number n k xs ≡ with_number n k ys) → xs ≡ ys
one_order n [] [] up rise h = refl
one_order n [] (y ∷ ys) up rise h = absurd (cons_none y (with_number n (n y) ys) (sym (first_there n y ys) ∙ sym (h (n y))))
one_order n (x ∷ xs) [] up rise h = absurd (cons_none x (with_number n (n x) xs) (sym (first_there n x xs) ∙ h (n x)))
one_order n (x ∷ xs) (y ∷ ys) up rise h =
    let same : x ≡ y = first_alike n x y xs ys up.1 rise.1 h in
    let alike : (k : ℕ) → with_number n k (x ∷ xs) ≡ with_number n k (x ∷ ys) = λ k. h k ∙ ap (λ z. with_number n k (z ∷ ys)) (sym same) in
    ap (λ z. z ∷ xs) same ∙ ap (λ zs. y ∷ zs) (one_order n xs ys (lower_start n 0 (n x) xs (omega arith) up.1) (lower_start n 0 (n y) ys (omega arith) rise.1) (tails_alike n x xs ys alike))

-- INSERTION

put_rises : (low : ℕ) (f : FieldRow) (fields : List FieldRow) → low ≤ f.number → Rising (λ (r : FieldRow). r.number) low fields → Rising (λ (r : FieldRow). r.number) low (put_in_order f fields)
put_rises low f [] le h = (le, tt)
put_rises low f (g ∷ fields) le h = go (nat_le f.number g.number) refl (λ more. put_rises g.number f fields more h.1)
  where
    go : (b : Bool) → nat_le f.number g.number ≡ b → (g.number ≤ f.number → Rising (λ (r : FieldRow). r.number) g.number (put_in_order f fields)) → Rising (λ (r : FieldRow). r.number) low (cond b (f ∷ g ∷ fields) (g ∷ put_in_order f fields))
    go true e more = (le, (grind (arith, e), h.1))
    go false e more = (h.0, more (grind (arith, e)))

pub order_rises : (fields : List FieldRow) → Rising (λ (r : FieldRow). r.number) 0 (in_order fields)
order_rises [] = tt
order_rises (f ∷ fields) = put_rises 0 f (in_order fields) (omega arith) (order_rises fields)

put_there : (k : ℕ) (f : FieldRow) (fields : List FieldRow) → with_number (λ (r : FieldRow). r.number) k (put_in_order f fields) ≡ with_number (λ (r : FieldRow). r.number) k (f ∷ fields)
put_there k f [] = refl
put_there k f (g ∷ fields) = go (nat_le f.number g.number) refl (put_there k f fields)
  where
    swapped : (a b : Bool) (rest : List FieldRow) → (a ≡ true → b ≡ true → ⊥) → cond b (g ∷ cond a (f ∷ rest) rest) (cond a (f ∷ rest) rest) ≡ cond a (f ∷ cond b (g ∷ rest) rest) (cond b (g ∷ rest) rest)
    swapped true true rest h = absurd (h refl refl)
    swapped true false rest h = refl
    swapped false true rest h = refl
    swapped false false rest h = refl

    go : (b : Bool) → nat_le f.number g.number ≡ b → with_number (λ (r : FieldRow). r.number) k (put_in_order f fields) ≡ with_number (λ (r : FieldRow). r.number) k (f ∷ fields) →
        with_number (λ (r : FieldRow). r.number) k (cond b (f ∷ g ∷ fields) (g ∷ put_in_order f fields)) ≡ with_number (λ (r : FieldRow). r.number) k (f ∷ g ∷ fields)
    go true e more = refl
    go false e more =
        ap (λ (rest : List FieldRow). cond (nat_eq g.number k) (g ∷ rest) rest) more
        ∙ swapped (nat_eq f.number k) (nat_eq g.number k) (with_number (λ (r : FieldRow). r.number) k fields) (λ a b. grind (arith, a, b, e))

pub order_there : (k : ℕ) (fields : List FieldRow) → with_number (λ (r : FieldRow). r.number) k (in_order fields) ≡ with_number (λ (r : FieldRow). r.number) k fields
order_there k [] = refl
order_there k (f ∷ fields) = put_there k f (in_order fields) ∙ ap (λ (rest : List FieldRow). cond (nat_eq f.number k) (f ∷ rest) rest) (order_there k fields)

-- A list that rises and has the same items of each number is the list in order.
pub is_in_order : (fields sorted : List FieldRow) → Rising (λ (r : FieldRow). r.number) 0 sorted → ((k : ℕ) → with_number (λ (r : FieldRow). r.number) k sorted ≡ with_number (λ (r : FieldRow). r.number) k fields) → sorted ≡ in_order fields
is_in_order fields sorted up h = one_order (λ (r : FieldRow). r.number) sorted (in_order fields) up (order_rises fields) (λ k. h k ∙ sym (order_there k fields))

-- A STABLE SORT

pub rising_from : {X : Type 0} (n : X → ℕ) (low : ℕ) (xs : List X) → IsNonDecreasingBy n xs → ((d : X) → 0 < length xs → low ≤ n (get_or xs 0 d)) → Rising n low xs
rising_from n low [] h first = tt
rising_from n low (x ∷ xs) h first =
    (first x (omega arith), rising_from n (n x) xs (λ i j d le lt. h (suc i) (suc j) d (omega arith) (omega arith)) (λ d some. h 0 1 d (omega arith) (omega arith)))

rows_rise : (low : ℕ) (fields : List FieldTable) → Rising (λ (f : FieldTable). f.number) low fields → Rising (λ (r : FieldRow). r.number) low (map field_row fields)
rows_rise low [] h = tt
rows_rise low (f ∷ fields) h = (h.0, rows_rise f.number fields h.1)

rows_there : (k : ℕ) (fields : List FieldTable) → with_number (λ (r : FieldRow). r.number) k (map field_row fields) ≡ map field_row (with_number (λ (f : FieldTable). f.number) k fields)
rows_there k [] = refl
rows_there k (f ∷ fields) = go (nat_eq f.number k) (rows_there k fields)
  where
    go : (b : Bool) → with_number (λ (r : FieldRow). r.number) k (map field_row fields) ≡ map field_row (with_number (λ (f : FieldTable). f.number) k fields) →
        cond b (field_row f ∷ with_number (λ (r : FieldRow). r.number) k (map field_row fields)) (with_number (λ (r : FieldRow). r.number) k (map field_row fields))
        ≡ map field_row (cond b (f ∷ with_number (λ (f : FieldTable). f.number) k fields) (with_number (λ (f : FieldTable). f.number) k fields))
    go true e = ap (λ rest. field_row f ∷ rest) e
    go false e = e

tied : (a b : ℕ) → (not (is_lt (nat_cmp a b)) && not (is_lt (nat_cmp b a))) ≡ nat_eq b a
tied a b = grind arith

head_number : {X : Type 0} (n : X → ℕ) (k : ℕ) (xs : List X) (y : X) (ys : List X) → with_number n k xs ≡ y ∷ ys → n y ≡ k
head_number n k [] y ys e = absurd cc
head_number n k (x ∷ xs) y ys e = go (nat_eq (n x) k) refl e (head_number n k xs y ys)
  where
    go : (b : Bool) → nat_eq (n x) k ≡ b → cond b (x ∷ with_number n k xs) (with_number n k xs) ≡ y ∷ ys → (with_number n k xs ≡ y ∷ ys → n y ≡ k) → n y ≡ k
    go true is e more = ap n (sym (same_head x y (with_number n k xs) ys e)) ∙ eqb-true (n x) k is
    go false is e more = more e

stable_there : {X : Type 0} (n : X → ℕ) (old new : List X) → IsStableByKey n nat_cmp old new → (k : ℕ) → with_number n k new ≡ with_number n k old
stable_there {X} n old new stable k = go (with_number n k new) (with_number n k old) refl refl
  where
    at : (x : X) → n x ≡ k → with_number n k new ≡ with_number n k old
    at x is =
        let alike : (y : X) → ties (λ a b. is_lt (nat_cmp (n a) (n b))) x y ≡ nat_eq (n y) k = λ y. tied (n x) (n y) ∙ ap (nat_eq (n y)) is in
        sym (filter_alike _ _ new alike) ∙ (stable x ∙ filter_alike _ _ old alike)

    go : (a b : List X) → with_number n k new ≡ a → with_number n k old ≡ b → with_number n k new ≡ with_number n k old
    go (x ∷ a) b e f = at x (head_number n k new x a e)
    go [] (y ∷ b) e f = at y (head_number n k old y b f)
    go [] [] e f = e ∙ sym f

pub sorted_rows : (old new : List FieldTable) → IsNonDecreasingBy (λ (f : FieldTable). f.number) new → IsStableByKey (λ (f : FieldTable). f.number) nat_cmp old new → map field_row new ≡ in_order (map field_row old)
sorted_rows old new up stable =
    is_in_order (map field_row old) (map field_row new) (rows_rise 0 new (rising_from (λ (f : FieldTable). f.number) 0 new up (λ d some. omega arith)))
    (λ k. rows_there k new ∙ (ap (map field_row) (stable_there (λ (f : FieldTable). f.number) old new stable k) ∙ sym (rows_there k old)))
