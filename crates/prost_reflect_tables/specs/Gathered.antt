-- Where the items of a list stand that pass a test, or that belong to something, and where the items of lists stand.
use Rattle.std.specs.Prelude.{ℕ, zero, suc, ◌+◌, Bool, true, if◌then◌else◌, List, [], ◌∷◌, ◌++◌, map, Option, slice_get, unwrap_or}
use Rattle.prost_reflect_tables.specs.Linking.{is_place}

-- The places of the items that pass, where the first item is at the place.
abbrev pub places_from : {X : Type 0} → (X → Bool) → ℕ → List X → List ℕ
places_from test i [] = []
places_from test i (x ∷ xs) = if test x then i ∷ places_from test (i + 1) xs else places_from test (i + 1) xs

abbrev pub places_where : {X : Type 0} → (X → Bool) → List X → List ℕ
places_where test xs = places_from test 0 xs

abbrev pub all_places : {X : Type 0} → List X → List ℕ
all_places xs = places_where (λ x. true) xs

-- The places of the items that belong to the place T.
abbrev pub places_of : {X : Type 0} → (X → Option ℕ) → List X → ℕ → List ℕ
places_of owner xs T = places_where (λ x. is_place T (owner x)) xs

-- The same for so many places, the first of which is T.
abbrev pub gathered : {X : Type 0} → (X → Option ℕ) → List X → ℕ → ℕ → List (List ℕ)
gathered owner xs T zero = []
gathered owner xs T (suc n) = places_of owner xs T ∷ gathered owner xs (T + 1) n

-- IN LISTS

-- The places of the items of the list at the place i, each behind that place.
abbrev pub pairs_at : {X : Type 0} → ℕ → List X → List (ℕ × ℕ)
pairs_at i xs = map (λ (place : ℕ). (i, place)) (all_places xs)

-- Those of lists, one list after another, where the first list is at the place i.
abbrev pub pairs_from : {X : Type 0} → ℕ → List (List X) → List (ℕ × ℕ)
pairs_from i [] = []
pairs_from i (xs ∷ lists) = pairs_at i xs ++ pairs_from (i + 1) lists

abbrev pub all_pairs : {X : Type 0} → List (List X) → List (ℕ × ℕ)
all_pairs lists = pairs_from 0 lists

-- The list at a place; an empty one where there is none.
abbrev pub list_at : {X : Type 0} → List (List X) → ℕ → List X
list_at lists i = unwrap_or (slice_get lists i) []
