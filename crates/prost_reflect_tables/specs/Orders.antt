-- Places in the order of what stands at them.
use Rattle.std.specs.Prelude.{ℕ, ℤ, pos, Bool, if◌then◌else◌, List, [], ◌∷◌, slice_get, unwrap_or}
use Rattle.std.specs.Ordering.{nat_cmp, int_cmp, is_lt}
use Rattle.std.specs.Cmp.Lexicographic.{slice_cmp}
use Rattle.prost_reflect_tables.specs.Gathered.{list_at}

-- In front of the first item that it does not stand behind.
abbrev pub put_by : {X : Type 0} → (before : X → X → Bool) → X → List X → List X
put_by before x [] = x ∷ []
put_by before x (y ∷ ys) = if before y x then y ∷ put_by before x ys else x ∷ y ∷ ys

-- In ascending order; of items that are equal in it, the one that stood first stays first.
abbrev pub sorted_by : {X : Type 0} → (before : X → X → Bool) → List X → List X
sorted_by before [] = []
sorted_by before (x ∷ xs) = put_by before x (sorted_by before xs)

-- BY TEXTS

abbrev pub text_at : List (List ℕ) → ℕ → List ℕ
text_at texts place = unwrap_or (slice_get texts place) []

-- The text at the second place, in the list at the first.
abbrev pub text_in : List (List (List ℕ)) → ℕ × ℕ → List ℕ
text_in lists p = text_at (list_at lists p.0) p.1

-- Texts are compared byte by byte.
abbrev pub text_before : {X : Type 0} → (text : X → List ℕ) → X → X → Bool
text_before text x y = is_lt (slice_cmp nat_cmp (text x) (text y))

abbrev pub by_text : List (List ℕ) → List ℕ → List ℕ
by_text texts places = sorted_by (text_before (text_at texts)) places

-- BY NUMBERS

abbrev pub number_at : List ℤ → ℕ → ℤ
number_at numbers place = unwrap_or (slice_get numbers place) (pos 0)

abbrev pub number_before : List ℤ → ℕ → ℕ → Bool
number_before numbers i j = is_lt (int_cmp (number_at numbers i) (number_at numbers j))

abbrev pub by_number : List ℤ → List ℕ → List ℕ
by_number numbers places = sorted_by (number_before numbers) places
