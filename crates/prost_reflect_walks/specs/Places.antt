-- Places that are still to come, and what an iterator over the definitions at places gives.
use Rattle.std.specs.Prelude.{◌≡◌, ℕ, zero, suc, ◌+◌, ◌-◌, List, [], ◌∷◌, Option, Some, None, Result, IfOk}
use Rattle.std.specs.declared.alloc.AllocError.{AllocError}
use Rattle.prost_reflect_walks.specs.declared.places.Places.{Places}
use Rattle.prost_reflect_walks.specs.declared.places.Places.TheVariants.{Listed, Range}

-- So many places, from the first on.
abbrev pub places_from : ℕ → ℕ → List ℕ
places_from i zero = []
places_from i (suc n) = i ∷ places_from (i + 1) n

abbrev pub places_left : Places → List ℕ
places_left (Listed places) = places.now
places_left (Range start end) = places_from start (end - start)

abbrev pub GivesPlace : Places → Option ℕ → Places → Type 0
GivesPlace old None new = (places_left old ≡ []) × (places_left new ≡ [])
GivesPlace old (Some place) new = places_left old ≡ place ∷ places_left new

-- What stands at the first place is given, or a refused clone; nothing where no place is left.
abbrev pub GivesNext : {A X : Type 0} → (A → X → Type 0) → List A → Option (Result X AllocError) → List A → Type 0
GivesNext stands old None new = (old ≡ []) × (new ≡ old)
GivesNext stands [] (Some given) new = ⊥
GivesNext stands (place ∷ old) (Some given) new = (new ≡ old) × IfOk given (stands place)
