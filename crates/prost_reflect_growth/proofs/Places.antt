-- Names are found where they were.
use Rattle.std.specs.Prelude.{◌≡◌, ◌+◌, ◌∷◌, ◌++◌}
use Rattle.prost_reflect_growth.proofs.Common.{position_from, ℕ, Bool, true, false, cond, List, [], length, Some, refl, sym, ap, ◌∙◌, arith, add-zero, zero-add, bytes_eq, option_map}
use Rattle.prost_reflect_growth.specs.Growth.{or_behind, PlacesGrow}

-- Counted from a later place.
later : {X : Type 0} (p : X → Bool) (i k : ℕ) (xs : List X) → position_from p (k + i) xs ≡ option_map (λ j. k + j) (position_from p i xs)
later p i k [] = refl
later p i k (x ∷ xs) = elim (p x) as (λ b. cond b (Some (k + i)) (position_from p (k + i + 1) xs) ≡ option_map (λ j. k + j) (cond b (Some i) (position_from p (i + 1) xs))) [
  | true ↦ refl
  | false ↦ let e : k + i + 1 ≡ k + (i + 1) = omega arith in rw e (later p (i + 1) k xs)
]

found_in : {X : Type 0} (p : X → Bool) (i : ℕ) (xs ys : List X) →
    position_from p i (xs ++ ys) ≡ or_behind (position_from p i xs) (i + length xs) (position_from p 0 ys)
found_in p i [] ys = let e : i + 0 ≡ i = omega arith in rw (add-zero i) (ap (λ j. position_from p j ys) (sym e) ∙ later p 0 i ys)
found_in p i (x ∷ xs) ys = elim (p x) as (λ b. cond b (Some i) (position_from p (i + 1) (xs ++ ys)) ≡ or_behind (cond b (Some i) (position_from p (i + 1) xs)) (i + length (x ∷ xs)) (position_from p 0 ys)) [
  | true ↦ refl
  | false ↦ let e : i + 1 + length xs ≡ i + length (x ∷ xs) = omega arith in rw (← e) (found_in p (i + 1) xs ys)
]

pub places_grow : PlacesGrow
places_grow old new name = found_in _ 0 old new ∙ ap (λ n. or_behind (position_from (bytes_eq name) 0 old) n (position_from (bytes_eq name) 0 new)) (zero-add (length old))
