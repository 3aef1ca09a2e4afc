-- Lists in two parts, and what stands at their places.
use Rattle.std.specs.Prelude.{◌≡◌, ◌+◌, ◌<◌, ◌∷◌, ◌++◌}
use Rattle.prost_reflect_growth.proofs.Common.{All, ℕ, zero, suc, Bool, true, false, cond, List, [], length, map, filter, Some, refl, ap, ap₂, ◌∙◌, subst, arith, slice_get, append-nil, add-zero, zero-add, option_map, All-head, All-tail, slice_get-map, places_from, each_from}

-- A PLACE

pub item_there : {X : Type 0} (xs : List X) (k : ℕ) → k < length xs → (x : X) × (slice_get xs k ≡ Some x)
item_there [] k h = absurd (omega arith)
item_there (x ∷ xs) zero h = (x, refl)
item_there (x ∷ xs) (suc k) h = item_there xs k (omega arith)

pub front_at : {X : Type 0} (xs ys : List X) (k : ℕ) (x : X) → slice_get xs k ≡ Some x → slice_get (xs ++ ys) k ≡ Some x
front_at [] ys k x e = absurd cc
front_at (y ∷ xs) ys zero x e = e
front_at (y ∷ xs) ys (suc k) x e = front_at xs ys k x e

pub mapped : {X Y : Type 0} (v : X → Y) (xs : List X) (k : ℕ) (x : X) → slice_get xs k ≡ Some x → slice_get (map v xs) k ≡ Some (v x)
mapped v xs k x e = slice_get-map v xs k ∙ ap (option_map v) e

-- Functions that agree on each item of a list.
pub map_alike : {X Y : Type 0} (f g : X → Y) (xs : List X) → ((i : ℕ) (x : X) → slice_get xs i ≡ Some x → f x ≡ g x) → map f xs ≡ map g xs
map_alike f g [] h = refl
map_alike f g (x ∷ xs) h = ap₂ (λ y ys. y ∷ ys) (h 0 x refl) (map_alike f g xs (λ i. h (suc i)))

-- What holds at each place of a list holds at those of a part of it.
pub filter_at : {X : Type 0} (p : X → Bool) (xs : List X) (P : X → Type 0) → ((i : ℕ) (x : X) → slice_get xs i ≡ Some x → P x) →
    (i : ℕ) (x : X) → slice_get (filter p xs) i ≡ Some x → P x
filter_at p [] P h i x at = absurd cc
filter_at {X} p (y ∷ ys) P h i x at = go (p y) (filter_at p ys P (λ k. h (suc k))) i at
  where
    go : (b : Bool) → ((i : ℕ) (x : X) → slice_get (filter p ys) i ≡ Some x → P x) →
        (i : ℕ) → slice_get (cond b (y ∷ filter p ys) (filter p ys)) i ≡ Some x → P x
    go true more zero at = let same : y ≡ x = cc in subst P same (h 0 y refl)
    go true more (suc i) at = more i x at
    go false more i at = more i x at

-- EACH ITEM WITH ITS PLACE

pub each_from_both : {X Y : Type 0} (f : ℕ → X → Y) (i : ℕ) (xs ys : List X) →
    each_from f i (xs ++ ys) ≡ each_from f i xs ++ each_from f (i + length xs) ys
each_from_both f i [] ys = rw (add-zero i) refl
each_from_both f i (x ∷ xs) ys =
    let e : i + 1 + length xs ≡ i + length (x ∷ xs) = omega arith in
    rw (← e) (ap (λ l. f i x ∷ l) (each_from_both f (i + 1) xs ys))

pub each_there : {X Y : Type 0} (f : ℕ → X → Y) (i k : ℕ) (xs : List X) (x : X) → slice_get xs k ≡ Some x →
    slice_get (each_from f i xs) k ≡ Some (f (i + k) x)
each_there f i k [] x e = absurd cc
each_there f i zero (y ∷ xs) x e = let same : y ≡ x = cc in let z : i ≡ i + 0 = omega arith in ap₂ (λ j w. Some (f j w)) z same
each_there f i (suc k) (y ∷ xs) x e = let z : (i + 1) + k ≡ i + suc k = omega arith in each_there f (i + 1) k xs x e ∙ ap (λ j. Some (f j x)) z

-- THE PLACES OF ITEMS

pub places_both : {X : Type 0} (test : X → Bool) (i : ℕ) (xs ys : List X) →
    places_from test i (xs ++ ys) ≡ places_from test i xs ++ places_from test (i + length xs) ys
places_both test i [] ys = let e : i ≡ i + 0 = omega arith in ap (λ k. places_from test k ys) e
places_both {X} test i (x ∷ xs) ys =
    let e : i + 1 + length xs ≡ i + length (x ∷ xs) = omega arith in
    rw (← e) (go (test x) (places_both test (i + 1) xs ys))
  where
    go : (b : Bool) → places_from test (i + 1) (xs ++ ys) ≡ places_from test (i + 1) xs ++ places_from test (i + 1 + length xs) ys →
        cond b (i ∷ places_from test (i + 1) (xs ++ ys)) (places_from test (i + 1) (xs ++ ys))
        ≡ cond b (i ∷ places_from test (i + 1) xs) (places_from test (i + 1) xs) ++ places_from test (i + 1 + length xs) ys
    go true more = ap (λ l. i ∷ l) more
    go false more = more

-- Places from further on.
pub places_shifted : {X : Type 0} (test : X → Bool) (n i : ℕ) (xs : List X) →
    places_from test (n + i) xs ≡ map (λ k. n + k) (places_from test i xs)
places_shifted test n i [] = refl
places_shifted {X} test n i (x ∷ xs) = let e : n + i + 1 ≡ n + (i + 1) = omega arith in rw e (go (test x) (places_shifted test n (i + 1) xs))
  where
    go : (b : Bool) → places_from test (n + (i + 1)) xs ≡ map (λ k. n + k) (places_from test (i + 1) xs) →
        cond b ((n + i) ∷ places_from test (n + (i + 1)) xs) (places_from test (n + (i + 1)) xs)
        ≡ map (λ k. n + k) (cond b (i ∷ places_from test (i + 1) xs) (places_from test (i + 1) xs))
    go true more = ap (λ l. (n + i) ∷ l) more
    go false more = more

-- Where none passes, there is no place.
none_there : {X : Type 0} (test : X → Bool) (P : X → Type 0) → ((x : X) → P x → test x ≡ false) → (i : ℕ) (xs : List X) → All P xs →
    places_from test i xs ≡ []
none_there test P out i [] h = refl
none_there test P out i (x ∷ xs) h = rw (out x (All-head P x xs h)) (none_there test P out (i + 1) xs (All-tail P x xs h))

pub none_placed : {X Y : Type 0} (f : X → Y) (test : X → Bool) (i : ℕ) (xs : List X) → map f (filter test xs) ≡ [] →
    places_from test i xs ≡ []
none_placed f test i [] e = refl
none_placed f test i (x ∷ xs) e = go (test x) e (none_placed f test (i + 1) xs)
  where
    go : (b : Bool) → map f (cond b (x ∷ filter test xs) (filter test xs)) ≡ [] →
        (map f (filter test xs) ≡ [] → places_from test (i + 1) xs ≡ []) →
        cond b (i ∷ places_from test (i + 1) xs) (places_from test (i + 1) xs) ≡ []
    go true e more = absurd cc
    go false e more = more e

-- The places among the items in front alone, and those among the items behind alone.
pub front_only : {X : Type 0} (test : X → Bool) (P : X → Type 0) → ((x : X) → P x → test x ≡ false) → (xs ys : List X) → All P ys →
    places_from test 0 (xs ++ ys) ≡ places_from test 0 xs
front_only test P out xs ys h =
    places_both test 0 xs ys ∙ (ap (λ l. places_from test 0 xs ++ l) (none_there test P out (0 + length xs) ys h) ∙ append-nil (places_from test 0 xs))

pub none_front : {X : Type 0} (test : X → Bool) (xs ys : List X) → places_from test 0 xs ≡ [] →
    places_from test 0 (xs ++ ys) ≡ places_from test (length xs) ys
none_front test xs ys h = places_both test 0 xs ys ∙ (ap (λ l. l ++ places_from test (0 + length xs) ys) h ∙ ap (λ k. places_from test k ys) (zero-add (length xs)))

pub behind_only : {X : Type 0} (test : X → Bool) (P : X → Type 0) → ((x : X) → P x → test x ≡ false) → (xs ys : List X) → All P xs →
    places_from test 0 (xs ++ ys) ≡ places_from test (length xs) ys
behind_only test P out xs ys h = none_front test xs ys (none_there test P out 0 xs h)
