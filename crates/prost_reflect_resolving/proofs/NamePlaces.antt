-- How maps of names grow, name by name, and where a name stands in two lists, one behind the other.
use Rattle.std.specs.Prelude.{◌≡◌, ◌+◌, ◌<◌, ◌∷◌, ◌++◌}
use Rattle.prost_reflect_resolving.proofs.Common.{ℕ, Bool, true, false, cond, List, [], length, take, get_or, Option, Some, None, refl, ap, ◌∙◌, arith, add-zero, zero-add, position_from, take_more, map-append, length-map, length-take, bytes_eq, name_place, text_list, place_from}
use denote.Bor.{Bor}

texts_more : (xs : List (Bor (List ℕ))) (i : ℕ) (d : Bor (List ℕ)) → i < length xs → text_list (take (i + 1) xs) ≡ text_list (take i xs) ++ (get_or xs i d).now ∷ []
texts_more xs i d h = ap text_list (take_more xs i d h) ∙ map-append (λ (t : Bor (List ℕ)). t.now) (take i xs) (get_or xs i d ∷ [])

-- The first answer, or else the second.
abbrev pub or_else : {X : Type 0} → Option X → Option X → Option X
or_else None p = p
or_else (Some i) p = Some i

-- What is found in the first of two lists, or else in the second.
found_behind : {X : Type 0} (p : X → Bool) (i : ℕ) (xs ys : List X) → position_from p i (xs ++ ys) ≡ or_else (position_from p i xs) (position_from p (i + length xs) ys)
found_behind p i [] ys = rw (add-zero i) refl
found_behind p i (x ∷ xs) ys =
    elim (p x) as (λ b. cond b (Some i) (position_from p (i + 1) (xs ++ ys)) ≡ or_else (cond b (Some i) (position_from p (i + 1) xs)) (position_from p (i + length (x ∷ xs)) ys)) [
      | true ↦ refl
      | false ↦ let e : i + 1 + length xs ≡ i + length (x ∷ xs) = omega arith in rw (← e) (found_behind p (i + 1) xs ys)
    ]

-- One name more.
pub place_more : (first : ℕ) (name : List ℕ) (xs : List (Bor (List ℕ))) (i : ℕ) (d : Bor (List ℕ)) → i < length xs →
    place_from first (text_list (take (i + 1) xs)) name ≡ or_else (place_from first (text_list (take i xs)) name) (cond (bytes_eq name (get_or xs i d).now) (Some (first + i)) None)
place_more first name xs i d h =
    let size : length (text_list (take i xs)) ≡ i = simp (length-map, length-take) (omega arith) in
    ap (λ (names : List (List ℕ)). place_from first names name) (texts_more xs i d h)
    ∙ (found_behind (bytes_eq name) first (text_list (take i xs)) ((get_or xs i d).now ∷ []) ∙ rw size refl)

-- A name of the names that are there, or else of those behind them.
pub place_behind : (old new : List (List ℕ)) (name : List ℕ) → name_place (old ++ new) name ≡ or_else (name_place old name) (place_from (length old) new name)
place_behind old new name = found_behind (bytes_eq name) 0 old new ∙ ap (λ n. or_else (name_place old name) (position_from (bytes_eq name) n new)) (zero-add (length old))
