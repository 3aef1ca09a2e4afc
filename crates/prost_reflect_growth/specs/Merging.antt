-- Places in the order of texts, where texts are added.
use Rattle.std.specs.Prelude.{◌≡◌, ℕ, ◌+◌, Bool, if◌then◌else◌, List, [], ◌∷◌, ◌++◌, length, map, take, drop}
use Rattle.std.specs.Cmp.{IsStrictWeakOrder}
use Rattle.std.specs.Fn.{FnReturnsAtPair}
use denote.Ref.{Bor}
use denote.Param.Members.{Shared}
use Rattle.prost_reflect_types.specs.declared.FileDescriptorProto.{FileDescriptorProto}
use Rattle.prost_reflect_tables.specs.CatalogRows.{SortedRow}
use Rattle.prost_reflect_tables.specs.Flat.{FlatRows, behind}
use Rattle.prost_reflect_tables.specs.Faults.{file_names, message_names, enum_names, names_of}
use Rattle.prost_reflect_tables.specs.LinkedCatalog.{ordered, service_names, value_places, value_full_name, sorted_places}
use Rattle.prost_reflect_tables.specs.Orders.{sorted_by, text_at, text_before, by_text}

-- Those in front that the item does not stand before.
abbrev pub front : {X : Type 0} → (before : X → X → Bool) → X → List X → List X
front before y [] = []
front before y (x ∷ xs) = if before y x then [] else x ∷ front before y xs

-- From the first on that it stands before.
abbrev pub back : {X : Type 0} → (before : X → X → Bool) → X → List X → List X
back before y [] = []
back before y (x ∷ xs) = if before y x then x ∷ xs else back before y xs

-- Items in order are put among others in order, each behind those that it does not stand before.
abbrev pub merged : {X : Type 0} → (before : X → X → Bool) → List X → List X → List X
merged before xs [] = xs
merged before xs (y ∷ ys) = front before y xs ++ y ∷ merged before (back before y xs) ys

-- The code answers by this order.
abbrev pub AnswersBy : {F T : Type 0} → Shared F (Bor T × (Bor T × Unit {0})) Bool → F → (T → T → Bool) → Type 0
AnswersBy {F} {T} g code lt = (x y : T) (r : Bool) → FnReturnsAtPair g code x y r → r ≡ lt x y

-- So many of the items in its order stand in front of a further one.
abbrev pub ArePassed : {F T : Type 0} → Shared F (Bor T × (Bor T × Unit {0})) Bool → F → List T → T → ℕ → Type 0
ArePassed {F} {T} g code xs y n =
    (lt : T → T → Bool) → AnswersBy g code lt → IsStrictWeakOrder lt → sorted_by lt xs ≡ xs →
    (take n xs ≡ front lt y xs) × (drop n xs ≡ back lt y xs)

-- The items are those in its order, merged with further ones.
abbrev pub AreMerged : {F T : Type 0} → Shared F (Bor T × (Bor T × Unit {0})) Bool → F → (old new items : List T) → Type 0
AreMerged {F} {T} g code old new items =
    (lt : T → T → Bool) → AnswersBy g code lt → IsStrictWeakOrder lt → sorted_by lt old ≡ old → items ≡ merged lt old new

-- ONE SORT OF DEFINITION

-- The old places in their order, and those of the added texts in theirs.
abbrev pub grown_order : (old new : List (List ℕ)) → List ℕ → List ℕ
grown_order old new places = merged (text_before (text_at (old ++ new))) places (map (λ i. length old + i) (ordered new))

abbrev pub OrderedGrows : Type 0
OrderedGrows = (old new : List (List ℕ)) → ordered (old ++ new) ≡ grown_order old new (ordered old)

-- The old places are in order among all texts, too.
abbrev pub OrderedStays : Type 0
OrderedStays = (old new : List (List ℕ)) → by_text (old ++ new) (ordered old) ≡ ordered old

-- VALUES OF ENUMS

-- So many enums further.
abbrev pub later_value : ℕ → ℕ × ℕ → ℕ × ℕ
later_value n p = (n + p.0, p.1)

abbrev pub ordered_values : FlatRows → List (ℕ × ℕ)
ordered_values rows = sorted_by (text_before (value_full_name rows)) (value_places rows)

abbrev pub grown_values : (old new : FlatRows) → List (ℕ × ℕ) → List (ℕ × ℕ)
grown_values old new places =
    merged (text_before (value_full_name (behind old new))) places (map (later_value (length old.enums)) (ordered_values new))

abbrev pub ValuesGrow : Type 0
ValuesGrow = (old new : FlatRows) → ordered_values (behind old new) ≡ grown_values old new (ordered_values old)

-- Those of old enums are in order among all values, too.
abbrev pub ValuesStay : Type 0
ValuesStay = (old new : FlatRows) → sorted_by (text_before (value_full_name (behind old new))) (ordered_values old) ≡ ordered_values old

-- ALL OF THEM

abbrev pub grown_sorted : (files added : List FileDescriptorProto) → (old new : FlatRows) → SortedRow → SortedRow
grown_sorted files added old new places = record {
  files = grown_order (file_names files) (file_names added) places.files;
  messages = grown_order (message_names old) (message_names new) places.messages;
  enums = grown_order (enum_names old) (enum_names new) places.enums;
  extensions = grown_order (names_of old.extensions) (names_of new.extensions) places.extensions;
  services = grown_order (service_names old) (service_names new) places.services;
  values = grown_values old new places.values;
}

abbrev pub SortedGrows : Type 0
SortedGrows =
    (files added : List FileDescriptorProto) (old new : FlatRows) →
    sorted_places (files ++ added) (behind old new) ≡ grown_sorted files added old new (sorted_places files old)
