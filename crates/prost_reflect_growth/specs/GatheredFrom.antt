-- Places of items by what the items belong to, from a first place on.
use Rattle.std.specs.Prelude.{ℕ, zero, suc, ◌+◌, List, [], ◌∷◌, map, Option, Vec}
use Rattle.std.specs.declared.alloc.Global.{Global}
use Rattle.prost_reflect_tables.specs.Linking.{is_place}
use Rattle.prost_reflect_tables.specs.Gathered.{places_from}

abbrev pub list_items : Vec (Vec ℕ Global) Global → List (List ℕ)
list_items lists = map (λ l. l.items) lists.items

-- For each of so many places, the first of which is T, the places of the items that belong to it, where the first item is at the place i.
abbrev pub gathered_from : {X : Type 0} → (X → Option ℕ) → (i : ℕ) → List X → (T n : ℕ) → List (List ℕ)
gathered_from owner i xs T zero = []
gathered_from owner i xs T (suc n) = places_from (λ x. is_place T (owner x)) i xs ∷ gathered_from owner i xs (T + 1) n
