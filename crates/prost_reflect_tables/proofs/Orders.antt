-- Two lists in one order, in which equal items stand alike, are one list.
use Rattle.std.specs.Prelude.{◌≡◌, ◌<◌, ◌≤◌, ◌&&◌, ◌∷◌}
use Rattle.prost_reflect_tables.proofs.Common.{ℕ, suc, Bool, true, false, cond, not, List, [], length, get_or, refl, sym, ap, ◌∙◌, arith, true≢false, filter, IsStrictWeakOrder, IsSortedBy, IsStableBy, ties}
use Rattle.std.proofs.lemmas.List.Sorted.{sorted_far}
use Rattle.prost_reflect_tables.specs.Orders.{put_by, sorted_by}

-- No item stands before this one.
abbrev pub NoneBefore : {X : Type 0} → (X → X → Bool) → X → List X → Type 0
NoneBefore lt x [] = Unit {0}
NoneBefore lt x (y ∷ ys) = (lt y x ≡ false) × NoneBefore lt x ys

abbrev pub Rises : {X : Type 0} → (X → X → Bool) → List X → Type 0
Rises lt [] = Unit {0}
Rises lt (x ∷ xs) = NoneBefore lt x xs × Rises lt xs

irreflexive : {X : Type 0} (lt : X → X → Bool) → IsStrictWeakOrder lt → (x : X) → lt x x ≡ false
irreflexive lt o x = go (lt x x) refl
  where
    go : (b : Bool) → lt x x ≡ b → b ≡ false
    go true e = sym e ∙ o.one_way x x e
    go false e = refl

both_not : (a b : Bool) → a ≡ false → b ≡ false → (not a && not b) ≡ true
both_not a b e f = rw (e, f) refl

not_first : (a b : Bool) → (not a && not b) ≡ true → a ≡ false
not_first false b e = refl
not_first true b e = absurd (true≢false (sym e))

not_second : (a b : Bool) → (not a && not b) ≡ true → b ≡ false
not_second false false e = refl
not_second _ _ e = absurd (true≢false (sym e))

first_there : {X : Type 0} (lt : X → X → Bool) → IsStrictWeakOrder lt → (x : X) (xs : List X) → filter (ties lt x) (x ∷ xs) ≡ x ∷ filter (ties lt x) xs
first_there lt o x xs = ap (λ b. cond b (x ∷ filter (ties lt x) xs) (filter (ties lt x) xs)) (both_not (lt x x) (lt x x) (irreflexive lt o x) (irreflexive lt o x))

pub same_head : {X : Type 0} (x y : X) (xs ys : List X) → x ∷ xs ≡ y ∷ ys → x ≡ y
same_head x y xs ys e = cc

pub same_tail : {X : Type 0} (x y : X) (xs ys : List X) → x ∷ xs ≡ y ∷ ys → xs ≡ ys
same_tail x y xs ys e = cc

-- What ties with an item of a list does not stand before the item that none of the list stands before.
tied_behind : {X : Type 0} (lt : X → X → Bool) → IsStrictWeakOrder lt → (x y z : X) (ys rest : List X) → filter (ties lt x) ys ≡ z ∷ rest → NoneBefore lt y ys → lt x y ≡ false
tied_behind lt o x y z [] rest e h = absurd cc
tied_behind lt o x y z (w ∷ ws) rest e h = go (ties lt x w) refl e (tied_behind lt o x y z ws rest)
  where
    go : (b : Bool) → ties lt x w ≡ b → cond b (w ∷ filter (ties lt x) ws) (filter (ties lt x) ws) ≡ z ∷ rest → (filter (ties lt x) ws ≡ z ∷ rest → NoneBefore lt y ws → lt x y ≡ false) → lt x y ≡ false
    go true t e more = o.chain x w y (not_first (lt x w) (lt w x) t) h.0
    go false t e more = more e h.1

first_alike : {X : Type 0} (lt : X → X → Bool) → IsStrictWeakOrder lt → (x y : X) (xs ys : List X) → NoneBefore lt x xs → NoneBefore lt y ys → ((z : X) → filter (ties lt z) (x ∷ xs) ≡ filter (ties lt z) (y ∷ ys)) → x ≡ y
first_alike lt o x y xs ys up rise h =
    let there : filter (ties lt x) (y ∷ ys) ≡ x ∷ filter (ties lt x) xs = sym (h x) ∙ first_there lt o x xs in
    let back : filter (ties lt y) (x ∷ xs) ≡ y ∷ filter (ties lt y) ys = h y ∙ first_there lt o y ys in
    let one : lt x y ≡ false = tied_behind lt o x y x (y ∷ ys) (filter (ties lt x) xs) there (irreflexive lt o y, rise) in
    let other : lt y x ≡ false = tied_behind lt o y x y (x ∷ xs) (filter (ties lt y) ys) back (irreflexive lt o x, up) in
    let tied : filter (ties lt x) (y ∷ ys) ≡ y ∷ filter (ties lt x) ys = ap (λ b. cond b (y ∷ filter (ties lt x) ys) (filter (ties lt x) ys)) (both_not (lt x y) (lt y x) one other) in
    same_head x y (filter (ties lt x) xs) (filter (ties lt x) ys) (sym there ∙ tied)

tails_alike : {X : Type 0} (lt : X → X → Bool) (x : X) (xs ys : List X) → ((z : X) → filter (ties lt z) (x ∷ xs) ≡ filter (ties lt z) (x ∷ ys)) → (z : X) → filter (ties lt z) xs ≡ filter (ties lt z) ys
tails_alike lt x xs ys h z = go (ties lt z x) (h z)
  where
    go : (b : Bool) → cond b (x ∷ filter (ties lt z) xs) (filter (ties lt z) xs) ≡ cond b (x ∷ filter (ties lt z) ys) (filter (ties lt z) ys) → filter (ties lt z) xs ≡ filter (ties lt z) ys
    go true e = same_tail x x (filter (ties lt z) xs) (filter (ties lt z) ys) e
    go false e = e

pub cons_none : {X : Type 0} (x : X) (xs : List X) → x ∷ xs ≡ [] → ⊥
cons_none x xs e = absurd cc

pub one_order : {X : Type 0} (lt : X → X → Bool) → IsStrictWeakOrder lt → (xs ys : List X) → Rises lt xs → Rises lt ys → ((z : X) → filter (ties lt z) xs ≡ filter (ties lt z) ys) → xs ≡ ys
one_order {X} lt o [] [] up rise h = refl
one_order {X} lt o [] (y ∷ ys) up rise h = absurd (cons_none y (filter (ties lt y) ys) (sym (first_there lt o y ys) ∙ sym (h y)))
one_order {X} lt o (x ∷ xs) [] up rise h = absurd (cons_none x (filter (ties lt x) xs) (sym (first_there lt o x xs) ∙ h x))
one_order {X} lt o (x ∷ xs) (y ∷ ys) up rise h =
    let same : x ≡ y = first_alike lt o x y xs ys up.0 rise.0 h in
    let alike : (z : X) → filter (ties lt z) (x ∷ xs) ≡ filter (ties lt z) (x ∷ ys) = λ z. h z ∙ ap (λ w. filter (ties lt z) (w ∷ ys)) (sym same) in
    ap (λ z. z ∷ xs) same ∙ ap (λ zs. y ∷ zs) (one_order lt o xs ys up.1 rise.1 (tails_alike lt x xs ys alike))

-- INSERTION

further : {X : Type 0} (lt : X → X → Bool) → IsStrictWeakOrder lt → (x y : X) (ys : List X) → lt y x ≡ false → NoneBefore lt y ys → NoneBefore lt x ys
further lt o x y [] e h = tt
further lt o x y (z ∷ zs) e h = (o.chain z y x h.0 e, further lt o x y zs e h.1)

put_behind : {X : Type 0} (lt : X → X → Bool) (w x : X) (xs : List X) → lt x w ≡ false → NoneBefore lt w xs → NoneBefore lt w (put_by lt x xs)
put_behind lt w x [] e h = (e, tt)
put_behind lt w x (y ∷ ys) e h = go (lt y x) (put_behind lt w x ys e h.1)
  where
    go : (b : Bool) → NoneBefore lt w (put_by lt x ys) → NoneBefore lt w (cond b (y ∷ put_by lt x ys) (x ∷ y ∷ ys))
    go true more = (h.0, more)
    go false more = (e, h)

put_rises : {X : Type 0} (lt : X → X → Bool) → IsStrictWeakOrder lt → (x : X) (xs : List X) → Rises lt xs → Rises lt (put_by lt x xs)
put_rises lt o x [] h = (tt, tt)
put_rises lt o x (y ∷ ys) h = go (lt y x) refl (put_rises lt o x ys h.1)
  where
    go : (b : Bool) → lt y x ≡ b → Rises lt (put_by lt x ys) → Rises lt (cond b (y ∷ put_by lt x ys) (x ∷ y ∷ ys))
    go true e more = (put_behind lt y x ys (o.one_way y x e) h.0, more)
    go false e more = ((e, further lt o x y ys e h.0), h)

pub order_rises : {X : Type 0} (lt : X → X → Bool) → IsStrictWeakOrder lt → (xs : List X) → Rises lt (sorted_by lt xs)
order_rises lt o [] = tt
order_rises lt o (x ∷ xs) = put_rises lt o x (sorted_by lt xs) (order_rises lt o xs)

put_there : {X : Type 0} (lt : X → X → Bool) → IsStrictWeakOrder lt → (z x : X) (xs : List X) → filter (ties lt z) (put_by lt x xs) ≡ filter (ties lt z) (x ∷ xs)
put_there lt o z x [] = refl
put_there {X} lt o z x (y ∷ ys) = go (lt y x) refl (put_there lt o z x ys)
  where
    swapped : (a b : Bool) (rest : List X) → (a ≡ true → b ≡ true → ⊥) → cond b (y ∷ cond a (x ∷ rest) rest) (cond a (x ∷ rest) rest) ≡ cond a (x ∷ cond b (y ∷ rest) rest) (cond b (y ∷ rest) rest)
    swapped true true rest h = absurd (h refl refl)
    swapped true false rest h = refl
    swapped false true rest h = refl
    swapped false false rest h = refl

    go : (b : Bool) → lt y x ≡ b → filter (ties lt z) (put_by lt x ys) ≡ filter (ties lt z) (x ∷ ys) → filter (ties lt z) (cond b (y ∷ put_by lt x ys) (x ∷ y ∷ ys)) ≡ filter (ties lt z) (x ∷ y ∷ ys)
    go false e more = refl
    go true e more =
        ap (λ (rest : List X). cond (ties lt z y) (y ∷ rest) rest) more
        ∙ swapped (ties lt z x) (ties lt z y) (filter (ties lt z) ys) (λ a b. true≢false (sym e ∙ o.chain y z x (not_second (lt z y) (lt y z) b) (not_first (lt z x) (lt x z) a)))

pub order_there : {X : Type 0} (lt : X → X → Bool) → IsStrictWeakOrder lt → (z : X) (xs : List X) → filter (ties lt z) (sorted_by lt xs) ≡ filter (ties lt z) xs
order_there lt o z [] = refl
order_there {X} lt o z (x ∷ xs) = put_there lt o z x (sorted_by lt xs) ∙ ap (λ (rest : List X). cond (ties lt z x) (x ∷ rest) rest) (order_there lt o z xs)

-- A STABLE SORT

none_from : {X : Type 0} (lt : X → X → Bool) (x : X) (ys : List X) → ((j : ℕ) (d : X) → j < length ys → lt (get_or ys j d) x ≡ false) → NoneBefore lt x ys
none_from lt x [] h = tt
none_from lt x (y ∷ ys) h = (h 0 y (omega arith), none_from lt x ys (λ j d less. h (suc j) d (omega arith)))

rises_from : {X : Type 0} (lt : X → X → Bool) (xs : List X) → ((i j : ℕ) (d : X) → i ≤ j → j < length xs → lt (get_or xs j d) (get_or xs i d) ≡ false) → Rises lt xs
rises_from lt [] h = tt
rises_from lt (x ∷ xs) h = (none_from lt x xs (λ j d less. h 0 (suc j) d (omega arith) (omega arith)), rises_from lt xs (λ i j d le less. h (suc i) (suc j) d (omega arith) (omega arith)))

pub is_sorted_by : {X : Type 0} (lt : X → X → Bool) → IsStrictWeakOrder lt → (old new : List X) → IsSortedBy lt new → IsStableBy lt old new → new ≡ sorted_by lt old
is_sorted_by lt o old new up stable =
    one_order lt o new (sorted_by lt old) (rises_from lt new (sorted_far lt o new up)) (order_rises lt o old) (λ z. stable z ∙ sym (order_there lt o z old))
