-- Where rows stand once further ones are put among them.
use Rattle.std.specs.Prelude.{◌≡◌, ◌≢◌, ◌+◌, ◌<◌, ◌≤◌, ◌∷◌, ◌++◌, ◌==◌}
use Rattle.prost_reflect_growth.proofs.Common.{position_from, ℕ, zero, suc, Bool, true, false, cond, List, [], length, filter, Option, Some, refl, sym, ap, ◌∙◌, arith, slice_get, nat_lt, nat_le, nat_eq, length-append, lt-ltb, le-ltb, ne_eqb, eq-eqb, eqb-true, eqb-false, position_from-zero, filter-append, put_in_order, in_order, FieldRow}
use Rattle.prost_reflect_tables.proofs.CatalogLinks.{HasRow, order_keeps}
use Rattle.prost_reflect_tables.proofs.DeclaredFields.{smaller_before}
use Rattle.prost_reflect_tables.proofs.Linkwell.Numbers.{number_of}
use Rattle.prost_reflect_tables.proofs.Sorting.{Rising, order_rises}
use Rattle.prost_reflect_growth.specs.RowsGrow.{number_of_row, smaller, moved_place, PlacesMove}
use Rattle.prost_reflect_growth.proofs.Lists.{front_at}

-- HOW MANY ARE SMALLER

smaller_put : (n : ℕ) (f : FieldRow) (rows : List FieldRow) → smaller n (put_in_order f rows) ≡ smaller n (f ∷ rows)
smaller_put n f [] = refl
smaller_put n f (g ∷ rows) = go (nat_le f.number g.number) (smaller_put n f rows)
  where
    swapped : (a b : Bool) (rest : List FieldRow) →
        length (cond b (g ∷ cond a (f ∷ rest) rest) (cond a (f ∷ rest) rest)) ≡ length (cond a (f ∷ cond b (g ∷ rest) rest) (cond b (g ∷ rest) rest))
    swapped true true rest = refl
    swapped true false rest = refl
    swapped false true rest = refl
    swapped false false rest = refl

    inner : (b : Bool) (xs ys : List FieldRow) → length xs ≡ length ys → length (cond b (g ∷ xs) xs) ≡ length (cond b (g ∷ ys) ys)
    inner true xs ys e = ap suc e
    inner false xs ys e = e

    go : (b : Bool) → smaller n (put_in_order f rows) ≡ smaller n (f ∷ rows) →
        smaller n (cond b (f ∷ g ∷ rows) (g ∷ put_in_order f rows)) ≡ smaller n (f ∷ g ∷ rows)
    go true e = refl
    go false e =
        inner (nat_lt g.number n) (filter (λ (r : FieldRow). nat_lt r.number n) (put_in_order f rows)) (filter (λ (r : FieldRow). nat_lt r.number n) (f ∷ rows)) e
        ∙ swapped (nat_lt f.number n) (nat_lt g.number n) (filter (λ (r : FieldRow). nat_lt r.number n) rows)

smaller_ordered : (n : ℕ) (rows : List FieldRow) → smaller n (in_order rows) ≡ smaller n rows
smaller_ordered n [] = refl
smaller_ordered n (f ∷ rows) = smaller_put n f (in_order rows) ∙ go (nat_lt f.number n) (smaller_ordered n rows)
  where
    go : (b : Bool) → smaller n (in_order rows) ≡ smaller n rows →
        length (cond b (f ∷ filter (λ (r : FieldRow). nat_lt r.number n) (in_order rows)) (filter (λ (r : FieldRow). nat_lt r.number n) (in_order rows)))
        ≡ length (cond b (f ∷ filter (λ (r : FieldRow). nat_lt r.number n) rows) (filter (λ (r : FieldRow). nat_lt r.number n) rows))
    go true e = ap suc e
    go false e = e

smaller_joined : (n : ℕ) (all more : List FieldRow) → smaller n (in_order (all ++ more)) ≡ smaller n all + smaller n more
smaller_joined n all more =
    smaller_ordered n (all ++ more)
    ∙ (ap length (filter-append (λ (r : FieldRow). nat_lt r.number n) all more)
    ∙ length-append (filter (λ (r : FieldRow). nat_lt r.number n) all) (filter (λ (r : FieldRow). nat_lt r.number n) more))

pub smaller_grown : (n : ℕ) (all more : List FieldRow) → smaller n (in_order (all ++ more)) ≡ smaller n (in_order all) + smaller n more
smaller_grown n all more = smaller_joined n all more ∙ ap (λ k. k + smaller n more) (sym (smaller_ordered n all))

pub moves_alike : (more fields : List FieldRow) (i : ℕ) → moved_place (in_order more) fields i ≡ moved_place more fields i
moves_alike more fields i = ap (λ k. i + k) (smaller_ordered (number_of_row (slice_get fields i)) more)

-- THE FIRST OF A NUMBER

none_smaller : (n low : ℕ) (rows : List FieldRow) → n ≤ low → Rising number_of low rows → smaller n rows ≡ 0
none_smaller n low [] le h = refl
none_smaller n low (g ∷ rows) le h = rw (le-ltb g.number n (omega (arith, h.0))) (none_smaller n g.number rows (omega (arith, h.0)) h.1)

at_least : (low : ℕ) (rows : List FieldRow) (i : ℕ) (f : FieldRow) → Rising number_of low rows → slice_get rows i ≡ Some f → low ≤ f.number
at_least low [] i f h e = absurd cc
at_least low (g ∷ rows) zero f h e = let same : g ≡ f = cc in omega (arith, h.0, ap number_of same)
at_least low (g ∷ rows) (suc i) f h e = let more = at_least g.number rows i f h.1 e in omega (arith, h.0)

-- Among rows in order the first of a number stands behind as many as have a smaller one.
first_of : (n k low : ℕ) (rows : List FieldRow) (i : ℕ) (f : FieldRow) → Rising number_of low rows → slice_get rows i ≡ Some f →
    f.number ≡ n →
    position_from (λ (r : FieldRow). r.number == n) k rows ≡ Some (k + smaller n rows)
first_of n k low [] i f h e is = absurd cc
first_of n k low (g ∷ rows) i f h e is = go (nat_eq g.number n) refl i e (λ j at. first_of n (k + 1) g.number rows j f h.1 at is)
  where
    go : (b : Bool) → nat_eq g.number n ≡ b → (i : ℕ) → slice_get (g ∷ rows) i ≡ Some f →
        ((j : ℕ) → slice_get rows j ≡ Some f →
        position_from (λ (r : FieldRow). r.number == n) (k + 1) rows ≡ Some (k + 1 + smaller n rows)) →
        position_from (λ (r : FieldRow). r.number == n) k (g ∷ rows) ≡ Some (k + smaller n (g ∷ rows))
    go true t i e more =
        let here : g.number ≡ n = eqb-true g.number n t in
        let none : smaller n rows ≡ 0 = none_smaller n g.number rows (omega (arith, here)) h.1 in
        rw (eq-eqb g.number n here, le-ltb g.number n (omega (arith, here))) (ap Some (omega (arith, none)))
    go false t zero e more = let same : g ≡ f = cc in absurd (eqb-false g.number n t (ap number_of same ∙ is))
    go false t (suc j) e more =
        let above = at_least g.number rows j f h.1 e in
        let other : g.number ≢ n = eqb-false g.number n t in
        let less : g.number < n = omega (arith, above, is, other) in
        rw (ne_eqb g.number n other, lt-ltb g.number n less) (more j e ∙ ap Some (omega arith))

pub places_move : PlacesMove
places_move fields more i f ascends at =
    let all = fields ++ more in
    let has : HasRow (in_order all) f = order_keeps all f i (front_at fields more i f at) in
    let before : smaller f.number fields ≡ i = smaller_before 0 f.number fields i f ascends at refl in
    let place : 0 + smaller f.number (in_order all) ≡ i + smaller f.number more = omega (arith, smaller_joined f.number fields more, before) in
    position_from-zero (λ (r : FieldRow). r.number == f.number) (in_order all)
    ∙ (first_of f.number 0 0 (in_order all) has.0 f (order_rises all) has.1 refl
    ∙ (ap Some place ∙ ap (λ (o : Option FieldRow). Some (i + smaller (number_of_row o) more)) (sym at)))
