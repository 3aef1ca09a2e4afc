-- What is kept while files are linked: definitions by what they belong to. For private contracts alone.
use Rattle.std.specs.Prelude.{ℕ, zero, suc, ◌+◌, if◌then◌else◌, List, [], ◌∷◌, ◌++◌, map, Option, Vec}
use Rattle.std.specs.declared.alloc.Global.{Global}
use Rattle.prost_reflect_tables.specs.declared.tables.FieldTable.{FieldTable}
use Rattle.prost_reflect_tables.specs.Rows.{FieldRow, field_row}
use Rattle.prost_reflect_tables.specs.Linking.{is_place, belonging}

-- So many empty lists.
abbrev pub empty_lists : {X : Type 0} → ℕ → List (List X)
empty_lists zero = []
empty_lists (suc n) = [] ∷ empty_lists n

-- An item behind the list of its place, where the first list is at the place i.
abbrev pub with_item : {X : Type 0} → Option ℕ → X → ℕ → List (List X) → List (List X)
with_item place x i [] = []
with_item place x i (xs ∷ lists) = (if is_place i place then xs ++ x ∷ [] else xs) ∷ with_item place x (i + 1) lists

-- Behind each list the rows of the items that belong to its place.
abbrev pub grouped : {X Y : Type 0} → (X → Option ℕ) → (X → Y) → List X → ℕ → List (List Y) → List (List Y)
grouped place row xs i [] = []
grouped place row xs i (ys ∷ lists) = (ys ++ map row (belonging place xs i)) ∷ grouped place row xs (i + 1) lists

abbrev pub list_rows : List (Vec FieldTable Global) → List (List FieldRow)
list_rows lists = map (λ fields. map field_row fields.items) lists
