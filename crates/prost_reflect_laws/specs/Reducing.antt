-- Reduction as a test: of all pairs of types, those that do not match are left out, until all that stay match.
use Rattle.std.specs.Prelude.{◌≡◌, ◌<◌, ◌↔◌, ◌∷◌}
use Rattle.prost_reflect_laws.specs.Common.{ℕ, zero, suc, Bool, true, List, [], length, map, filter, flat_map, IsTrue, Schema, message_type, schema_valid, TypePairs, holds, types_match, Reduced}

abbrev pub numbers_below : ℕ → List ℕ
numbers_below zero = []
numbers_below (suc n) = n ∷ numbers_below n

-- Each type of the older schema with each of the newer one.
abbrev pub all_pairs : Schema → Schema → TypePairs
all_pairs older newer = flat_map (λ A. map (λ B. (A, B)) (numbers_below (length newer))) (numbers_below (length older))

-- The pairs whose types match, where message fields' types are pairs of these.
abbrev pub refined : Schema → Schema → TypePairs → TypePairs
refined older newer pairs = filter (λ p. types_match pairs (message_type older p.0) (message_type newer p.1)) pairs

unfoldable pub refined_times : ℕ → Schema → Schema → TypePairs → TypePairs
refined_times zero older newer pairs = pairs
refined_times (suc n) older newer pairs = refined_times n older newer (refined older newer pairs)

-- Each time but the last leaves a pair out, so that as many times as there are pairs are enough.
abbrev pub greatest_reduction : Schema → Schema → TypePairs
greatest_reduction older newer = refined_times (length (all_pairs older newer)) older newer (all_pairs older newer)

abbrev pub is_reduced : Schema → ℕ → Schema → ℕ → Bool
is_reduced older A newer B = holds (greatest_reduction older newer) A B

-- The test answers yes exactly for a reduction.
abbrev pub ReducedIsTest : Type 0
ReducedIsTest = (older newer : Schema) (A B : ℕ) → schema_valid older ≡ true → schema_valid newer ≡ true
    → A < length older
    → B < length newer
    → Reduced older A newer B ↔ IsTrue (is_reduced older A newer B)
