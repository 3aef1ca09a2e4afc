-- Places of items by what the items belong to.
use Rattle.prost_reflect_tables.proofs.Common.{ℕ, zero, suc, Bool, true, false, cond, List, [], map, length, Option, refl, sym, ap, ◌∙◌, arith, append_assoc, append-nil, get_or, drop, drop-cons, add-one, drop_all, slice_get, is_place, empty_lists, with_item, places_from, all_places, places_of, gathered, pairs_at, pairs_from}
use Rattle.std.specs.Prelude.{unwrap_or, ◌≡◌, ◌+◌, ◌<◌, ◌≤◌, ◌∷◌, ◌++◌}

-- Behind each list the places of the items that belong to its place, where the first item is at the place p and the first list at i.
abbrev pub behind : {X : Type 0} → (X → Option ℕ) → ℕ → List X → ℕ → List (List ℕ) → List (List ℕ)
behind owner p xs i [] = []
behind owner p xs i (ys ∷ lists) = (ys ++ places_from (λ x. is_place i (owner x)) p xs) ∷ behind owner p xs (i + 1) lists

behind_item : {X : Type 0} (owner : X → Option ℕ) (p : ℕ) (x : X) (xs : List X) (i : ℕ) (lists : List (List ℕ)) → behind owner (p + 1) xs i (with_item (owner x) p i lists) ≡ behind owner p (x ∷ xs) i lists
behind_item owner p x xs i [] = refl
behind_item owner p x xs i (ys ∷ lists) = rw (behind_item owner p x xs (i + 1) lists) (ap (λ l. l ∷ behind owner p (x ∷ xs) (i + 1) lists) (go (is_place i (owner x))))
  where
    go : (b : Bool) → cond b (ys ++ p ∷ []) ys ++ places_from (λ x. is_place i (owner x)) (p + 1) xs ≡ ys ++ cond b (p ∷ places_from (λ x. is_place i (owner x)) (p + 1) xs) (places_from (λ x. is_place i (owner x)) (p + 1) xs)
    go true = append_assoc ys (p ∷ []) (places_from (λ x. is_place i (owner x)) (p + 1) xs)
    go false = refl

behind_none : {X : Type 0} (owner : X → Option ℕ) (p i : ℕ) (lists : List (List ℕ)) → behind owner p [] i lists ≡ lists
behind_none owner p i [] = refl
behind_none owner p i (ys ∷ lists) = rw (append-nil ys) (ap (λ l. ys ∷ l) (behind_none owner p (i + 1) lists))

pub behind_empty : {X : Type 0} (owner : X → Option ℕ) (xs : List X) (T n : ℕ) → behind owner 0 xs T (empty_lists n) ≡ gathered owner xs T n
behind_empty owner xs T zero = refl
behind_empty owner xs T (suc n) = ap (λ l. places_of owner xs T ∷ l) (behind_empty owner xs (T + 1) n)

-- One item more.
pub gathered_more : {X : Type 0} (owner : X → Option ℕ) (xs : List X) (k : ℕ) (x : X) (place : Option ℕ) (old new : List (List ℕ)) →
    k < length xs → x ≡ get_or xs k x → place ≡ owner x → new ≡ with_item place k 0 old → behind owner (k + 1) (drop (k + 1) xs) 0 new ≡ behind owner k (drop k xs) 0 old
gathered_more owner xs k x place old new h is at e =
    let front : drop k xs ≡ x ∷ drop (k + 1) xs = drop-cons xs k x h ∙ (ap (λ z. z ∷ drop (suc k) xs) (sym is) ∙ ap (λ j. x ∷ drop j xs) (sym (add-one k))) in
    ap (behind owner (k + 1) (drop (k + 1) xs) 0) (e ∙ ap (λ p. with_item p k 0 old) at) ∙ (behind_item owner k x (drop (k + 1) xs) 0 old ∙ ap (λ zs. behind owner k zs 0 old) (sym front))

pub gathered_all : {X : Type 0} (owner : X → Option ℕ) (xs : List X) (k : ℕ) (lists : List (List ℕ)) → length xs ≤ k → lists ≡ behind owner k (drop k xs) 0 lists
gathered_all owner xs k lists h = sym (behind_none owner k 0 lists) ∙ ap (λ zs. behind owner k zs 0 lists) (sym (drop_all k xs h))

-- The list of a place.
at_from : {X : Type 0} (owner : X → Option ℕ) (xs : List X) (i n k : ℕ) → k < n → unwrap_or (slice_get (gathered owner xs i n) k) [] ≡ places_of owner xs (i + k)
at_from owner xs i zero k h = absurd (omega arith)
at_from owner xs i (suc n) zero h = ap (places_of owner xs) (omega arith)
at_from owner xs i (suc n) (suc k) h = at_from owner xs (i + 1) n k (omega arith) ∙ ap (places_of owner xs) (omega arith)

pub gathered_at : {X : Type 0} (owner : X → Option ℕ) (xs : List X) (n k : ℕ) → k < n → unwrap_or (slice_get (gathered owner xs 0 n) k) [] ≡ places_of owner xs k
gathered_at owner xs n k h = at_from owner xs 0 n k h ∙ ap (places_of owner xs) (omega arith)

-- Rows of items belong to what the items belong to.
pub rows_from : {X Y : Type 0} (row : X → Y) (test : Y → Bool) (i : ℕ) (xs : List X) → places_from (λ x. test (row x)) i xs ≡ places_from test i (map row xs)
rows_from row test i [] = refl
rows_from row test i (x ∷ xs) = ap (λ l. cond (test (row x)) (i ∷ l) l) (rows_from row test (i + 1) xs)

pub rows_gathered : {X Y : Type 0} (row : X → Y) (owner : Y → Option ℕ) (xs : List X) (T n : ℕ) → gathered (λ x. owner (row x)) xs T n ≡ gathered owner (map row xs) T n
rows_gathered row owner xs T zero = refl
rows_gathered row owner xs T (suc n) = ap (λ l. l ∷ gathered (λ x. owner (row x)) xs (T + 1) n) (rows_from row (λ y. is_place T (owner y)) 0 xs) ∙ ap (λ l. places_of owner (map row xs) T ∷ l) (rows_gathered row owner xs (T + 1) n)

-- A copy of the list of a place.
pub copied_at : {X : Type 0} (owner : X → Option ℕ) (xs : List X) (n k : ℕ) (lists : List (List ℕ)) (copy : List ℕ) → lists ≡ gathered owner xs 0 n → k < n → copy ≡ unwrap_or (slice_get lists k) [] → copy ≡ places_of owner xs k
copied_at owner xs n k lists copy e h is = is ∙ (ap (λ (ls : List (List ℕ)). unwrap_or (slice_get ls k) []) e ∙ gathered_at owner xs n k h)

-- As many texts have as many places.
places_shown : {X Y : Type 0} (row : X → Y) (i : ℕ) (xs : List X) → places_from (λ (x : X). true) i xs ≡ places_from (λ (y : Y). true) i (map row xs)
places_shown row i [] = refl
places_shown row i (x ∷ xs) = ap (λ l. i ∷ l) (places_shown row (i + 1) xs)

pub all_shown : {X Y : Type 0} (row : X → Y) (xs : List X) → all_places xs ≡ all_places (map row xs)
all_shown row xs = places_shown row 0 xs

-- As many items in as many lists have the same pairs.
pub pairs_shown : {A B X Y : Type 0} (row : A → B) (items : A → List X) (shown : B → List Y) (see : X → Y) → ((a : A) → shown (row a) ≡ map see (items a)) → (i : ℕ) (ls : List A) → pairs_from i (map shown (map row ls)) ≡ pairs_from i (map items ls)
pairs_shown row items shown see h i [] = refl
pairs_shown {Y} row items shown see h i (l ∷ ls) =
    let rest : List (ℕ × ℕ) = pairs_from (i + 1) (map shown (map row ls)) in
    ap (λ (ys : List Y). pairs_at i ys ++ rest) (h l)
    ∙ (ap (λ (places : List ℕ). map (λ (place : ℕ). (i, place)) places ++ rest) (sym (all_shown see (items l)))
    ∙ ap (λ (pairs : List (ℕ × ℕ)). pairs_at i (items l) ++ pairs) (pairs_shown row items shown see h (i + 1) ls))
