-- Messages that get rows one after another, and the extensions that are listed for them.
use Rattle.std.specs.Prelude.{◌≡◌, ◌+◌, ◌-◌, ◌<◌, ◌≤◌, ◌∷◌, ◌++◌, ◌⊎◌, Bool, zero, suc, None, Some, slice_get, slice_set, take, unwrap_or}
use Rattle.std.proofs.Common.{append-nil, ap₂, subst, cond, take_all, zero-add}
use Rattle.std.proofs.lemmas.Bool.{and_parts, le-ltb, lt-ltb, or_parts}
use Rattle.std.proofs.lemmas.List.{drop_all, length-map, map-append}
use Rattle.prost_reflect_tables.proofs.Grouping.{item_nowhere, item_past, item_set}
use Rattle.prost_reflect_linking.proofs.Common.{ℕ, true, false, Option, List, [], Vec, Global, length, get_or, field_row, list_rows, map, drop, refl, sym, ap, ◌∙◌, arith, DefinitionRow, FieldRow, belonging, each_from, empty_lists, extended_place, grouped, linked_field, with_item}
use Rattle.prost_reflect_linking.proofs.Paired.{belonging_of, extendee_of, pairs_of}
use Rattle.prost_reflect_growth.proofs.FirstPlaces.{elsewhere}
use Rattle.prost_reflect_growth.specs.FirstPlaces.{is_below}
use Rattle.prost_reflect_growth.specs.RowsGrow.{further, grown_message}
use Rattle.prost_reflect_linking.specs.Grown.{any_below, grown_by, list_from, listed_count}
unfoldable use Rattle.prost_reflect_linking.specs.Grown.{grown_front}
use Rattle.prost_reflect_tables.specs.Rows.{MessageRow}
use Rattle.prost_reflect_tables.specs.declared.tables.FieldTable.{FieldTable}
use Rattle.std.specs.List.{list_all}
use Rattle.std.specs.Option.{option_map}
use Rattle.std.proofs.lemmas.Option.{slice_get-map, slice_get_read, slice_get_within}
use Rattle.prost_reflect_linking.specs.Meanings.{field_meant, meant}
use Rattle.prost_reflect_tables.specs.Gathered.{list_at}
use Rattle.prost_reflect_tables.specs.Flat.{FlatMessageRow, FlatRows, behind}
use Rattle.prost_reflect_tables.specs.Linking.{Links, links_of, messages_from}
use Rattle.prost_reflect_tables.specs.Resolved.{resolve}
use Rattle.prost_reflect_types.specs.declared.FieldDescriptorProto.{FieldDescriptorProto}

-- STEP BY STEP

pub item_there : {X : Type 0} (xs : List X) (k : ℕ) → k < length xs → (x : X) × (slice_get xs k ≡ Some x)
item_there [] k h = absurd (omega arith)
item_there (x ∷ xs) zero h = (x, refl)
item_there (x ∷ xs) (suc k) h = item_there xs k (omega arith)

-- The next item is what it was.
pub each_at : {X : Type 0} (G : ℕ → X → X) (i k : ℕ) (xs : List X) (x : X) → slice_get xs k ≡ Some x →
    slice_get (each_from G i (take k xs) ++ drop k xs) k ≡ Some x
each_at G i k [] x e = absurd cc
each_at G i zero (y ∷ ys) x e = e
each_at G i (suc k) (y ∷ ys) x e = each_at G (i + 1) k ys x e

-- It is changed.
pub each_set : {X : Type 0} (G : ℕ → X → X) (i k : ℕ) (xs : List X) (x : X) → slice_get xs k ≡ Some x →
    slice_set (each_from G i (take k xs) ++ drop k xs) k (G (i + k) x) ≡ each_from G i (take (suc k) xs) ++ drop (suc k) xs
each_set G i k [] x e = absurd cc
each_set G i zero (y ∷ ys) x e = let same : y ≡ x = cc in let z : i + 0 ≡ i = omega arith in ap₂ (λ j w. G j w ∷ ys) z (sym same)
each_set {X} G i (suc k) (y ∷ ys) x e =
    let z : i + suc k ≡ (i + 1) + k = omega arith in
    ap (λ (l : List X). G i y ∷ l) (ap (λ j. slice_set (each_from G (i + 1) (take k ys) ++ drop k ys) k (G j x)) z ∙ each_set G (i + 1) k ys x e)

-- Or it stays.
pub each_kept : {X : Type 0} (G : ℕ → X → X) (i k : ℕ) (xs : List X) (x : X) → slice_get xs k ≡ Some x → G (i + k) x ≡ x →
    each_from G i (take k xs) ++ drop k xs ≡ each_from G i (take (suc k) xs) ++ drop (suc k) xs
each_kept G i k [] x e s = absurd cc
each_kept {X} G i zero (y ∷ ys) x e s =
    let same : y ≡ x = cc in
    let z : i + 0 ≡ i = omega arith in
    ap (λ (w : X). w ∷ ys) (same ∙ (sym s ∙ ap₂ G z (sym same)))
each_kept {X} G i (suc k) (y ∷ ys) x e s =
    let z : (i + 1) + k ≡ i + suc k = omega arith in
    ap (λ (l : List X). G i y ∷ l) (each_kept G (i + 1) k ys x e (ap (λ j. G j x) z ∙ s))

-- Nothing is changed by what changes no item.
pub each_untouched : {X : Type 0} (G : ℕ → X → X) (i k : ℕ) (xs : List X) → ((j : ℕ) (x : X) → j < k → slice_get xs j ≡ Some x → G (i + j) x ≡ x) →
    each_from G i (take k xs) ++ drop k xs ≡ xs
each_untouched G i zero xs h = refl
each_untouched G i (suc k) [] h = refl
each_untouched G i (suc k) (x ∷ xs) h =
    let z : i ≡ i + 0 = omega arith in
    ap₂ (λ y ys. y ∷ ys) (ap (λ j. G j x) z ∙ h 0 x (omega arith) refl)
    (each_untouched G (i + 1) k xs (λ j y less at. let n : (i + 1) + j ≡ i + suc j = omega arith in ap (λ m. G m y) n ∙ h (suc j) y (omega arith) at))

-- All of them.
pub each_whole : {X : Type 0} (G : ℕ → X → X) (i k : ℕ) (xs : List X) → k ≡ length xs → each_from G i (take k xs) ++ drop k xs ≡ each_from G i xs
each_whole G i k xs e =
    ap (λ n. each_from G i (take n xs) ++ drop n xs) e
    ∙ (ap₂ (λ a b. each_from G i a ++ b) (take_all (length xs) xs (omega arith)) (drop_all (length xs) xs (omega arith)) ∙ append-nil (each_from G i xs))

-- What gives the same of each item.
pub each_alike : {X Y : Type 0} (f g : ℕ → X → Y) (i : ℕ) (xs : List X) → ((j : ℕ) (x : X) → slice_get xs j ≡ Some x → f (i + j) x ≡ g (i + j) x) →
    each_from f i xs ≡ each_from g i xs
each_alike f g i [] h = refl
each_alike f g i (x ∷ xs) h =
    let z : i ≡ i + 0 = omega arith in
    ap₂ (λ y ys. y ∷ ys) (ap (λ j. f j x) z ∙ (h 0 x refl ∙ ap (λ j. g j x) (sym z)))
    (each_alike f g (i + 1) xs (λ j y at. let n : (i + 1) + j ≡ i + suc j = omega arith in ap (λ m. f m y) n ∙ (h (suc j) y at ∙ ap (λ m. g m y) (sym n))))

-- LISTS FROM A PLACE ON

pub listed_there : {X : Type 0} (first k : ℕ) (lists : List (List X)) → list_from first lists (first + k) ≡ list_at lists k
listed_there first k lists =
    let e : first + k - first ≡ k = omega arith in
    rw (le-ltb (first + k) first (omega arith)) (ap (list_at lists) e)

pub listed_before : {X : Type 0} (first T : ℕ) (lists : List (List X)) → T < first → list_from first lists T ≡ []
listed_before first T lists less = rw (lt-ltb T first less) refl

-- MESSAGES WITH THEIR ROWS

-- No message changes where it gets no rows.
abbrev pub Untouched : List MessageRow → Type 0
Untouched ms = (T : ℕ) (m : MessageRow) → slice_get ms T ≡ Some m → grown_message [] m ≡ m

module _ (first : ℕ) (lists : List (List FieldRow)) (ms : List MessageRow) where
  abbrev with_rows : ℕ → MessageRow → MessageRow
  with_rows T m = grown_message (list_from first lists T) m

  pub front_start : Untouched ms → grown_front first first lists ms ≡ ms
  unfolding grown_front
  front_start h =
      each_untouched with_rows 0 first ms
      (λ j m less at. let z : 0 + j ≡ j = omega arith in ap (λ T. with_rows T m) z ∙ (ap (λ more. grown_message more m) (listed_before first j lists less) ∙ h j m at))

  pub front_there : (k : ℕ) (m : MessageRow) → slice_get ms k ≡ Some m → slice_get (grown_front first k lists ms) k ≡ Some m
  unfolding grown_front
  front_there k m at = each_at with_rows 0 k ms m at

  pub front_set : (j : ℕ) (more : List FieldRow) (m : MessageRow) → slice_get ms (first + j) ≡ Some m → list_at lists j ≡ more →
      slice_set (grown_front first (first + j) lists ms) (first + j) (grown_message more m) ≡ grown_front first (first + (j + 1)) lists ms
  unfolding grown_front
  front_set j more m at is =
      let k : 0 + (first + j) ≡ first + j = omega arith in
      let next : suc (first + j) ≡ first + (j + 1) = omega arith in
      ap (slice_set (grown_front first (first + j) lists ms) (first + j))
      (ap (λ more. grown_message more m) (sym (listed_there first j lists ∙ is)) ∙ ap (λ T. with_rows T m) (sym k))
      ∙ (each_set with_rows 0 (first + j) ms m at ∙ ap (λ n. grown_front first n lists ms) next)

  pub front_kept : (j : ℕ) (m : MessageRow) → slice_get ms (first + j) ≡ Some m → list_at lists j ≡ [] → Untouched ms →
      grown_front first (first + j) lists ms ≡ grown_front first (first + (j + 1)) lists ms
  unfolding grown_front
  front_kept j m at is h =
      let k : 0 + (first + j) ≡ first + j = omega arith in
      let next : suc (first + j) ≡ first + (j + 1) = omega arith in
      each_kept with_rows 0 (first + j) ms m at
      (ap (λ T. with_rows T m) k ∙ (ap (λ more. grown_message more m) (listed_there first j lists ∙ is) ∙ h (first + j) m at))
      ∙ ap (λ n. grown_front first n lists ms) next

  pub front_whole : (k : ℕ) → k ≡ length ms → first ≡ length ms - length lists → grown_front first k lists ms ≡ grown_by lists ms
  unfolding grown_front
  front_whole k whole is =
      each_whole with_rows 0 k ms whole ∙ ap (λ f. each_from (λ T m. grown_message (list_from f lists T) m) 0 ms) is

-- The list of rows at a place.
pub rows_listed : (lists : List (Vec FieldTable Global)) (k : ℕ) (v : Vec FieldTable Global) → k < length lists → v ≡ get_or lists k v →
    list_at (list_rows lists) k ≡ map field_row v.items
rows_listed lists k v less is =
    ap (λ o. unwrap_or o []) (slice_get-map (λ (fields : Vec FieldTable Global). map field_row fields.items) lists k
    ∙ ap (option_map (λ (fields : Vec FieldTable Global). map field_row fields.items)) (slice_get_read lists (length lists) k v refl less is))

-- LISTS OF EXTENSIONS

pub grouped_at : {X Y : Type 0} (place : X → Option ℕ) (row : X → Y) (xs : List X) (i n k : ℕ) → k < n →
    list_at (grouped place row xs i (empty_lists n)) k ≡ map row (belonging place xs (i + k))
grouped_at place row xs i zero k less = absurd (omega arith)
grouped_at place row xs i (suc n) zero less = let z : i ≡ i + 0 = omega arith in ap (λ j. map row (belonging place xs j)) z
grouped_at place row xs i (suc n) (suc k) less =
    let z : (i + 1) + k ≡ i + suc k = omega arith in
    grouped_at place row xs (i + 1) n k (omega arith) ∙ ap (λ j. map row (belonging place xs j)) z

-- Nothing is put where there is no list.
pub listed_nowhere : (place : Option ℕ) (x : FieldRow) (first : ℕ) (lists : List (Vec FieldTable Global)) (count : ℕ) → count ≡ length lists →
    ((p : ℕ) → place ≡ Some p → (p < first) ⊎ (first + count ≤ p)) → with_item place x first (list_rows lists) ≡ list_rows lists
listed_nowhere None x first lists count long h = item_nowhere x first (list_rows lists)
listed_nowhere (Some p) x first lists count long h =
    let same : length (list_rows lists) ≡ count = length-map lists (λ (v : Vec FieldTable Global). map field_row v.items) ∙ sym long in
    item_past x first p (list_rows lists) (subst (λ (n : ℕ). (p < first) ⊎ (first + n ≤ p)) (sym same) (h p refl))

-- A row is put into the list at a place.
pub listed_pushed : (place : Option ℕ) (f : FieldTable) (first k : ℕ) (lists : List (Vec FieldTable Global)) (new old : Vec FieldTable Global) →
    place ≡ Some (first + k) → k < length lists → old ≡ get_or lists k old → new.items ≡ old.items ++ f ∷ [] →
    list_rows (slice_set lists k new) ≡ with_item place (field_row f) first (list_rows lists)
listed_pushed place f first k lists new old is less at e =
    item_set (λ (v : Vec FieldTable Global). map field_row v.items) (field_row f) lists k first new old less
    (ap (map field_row) e ∙ (map-append field_row old.items (f ∷ []) ∙ ap (λ (v : Vec FieldTable Global). map field_row v.items ++ field_row f ∷ []) at))
    ∙ ap (λ p. with_item p (field_row f) first (list_rows lists)) (sym is)

-- Where no extension extends one of so many messages, none extends the message at one of their places.
none_below : (n T : ℕ) (links : Links) (ds : List (DefinitionRow FieldDescriptorProto)) → T < n →
    any_below n (map (λ (d : DefinitionRow FieldDescriptorProto). meant (resolve links d)) ds) ≡ false → belonging extendee_of (pairs_of links ds) T ≡ []
none_below n T links [] less e = refl
none_below n T links (d ∷ ds) less e =
    let parts = or_parts (is_below n (meant (resolve links d)).extendee) (any_below n (map (λ (x : DefinitionRow FieldDescriptorProto). meant (resolve links x)) ds)) e in
    let rest = belonging extendee_of (pairs_of links ds) T in
    ap (λ b. cond b ((d, meant (resolve links d)) ∷ rest) rest) (elsewhere n T (meant (resolve links d)).extendee parts.0 less) ∙ none_below n T links ds less parts.1

-- What is listed for the message at a place are the extensions that belong to it.
pub further_listed : (n T : ℕ) (links : Links) (ds : List (DefinitionRow FieldDescriptorProto)) (listed : ℕ) → T < n →
    listed ≡ listed_count n (map (λ (d : DefinitionRow FieldDescriptorProto). meant (resolve links d)) ds) →
    list_from (n - listed) (grouped extendee_of (field_meant true) (pairs_of links ds) (n - listed) (empty_lists listed)) T
    ≡ map (linked_field links true) (belonging (extended_place links) ds T)
further_listed n T links ds listed less e = go (any_below n (map (λ (d : DefinitionRow FieldDescriptorProto). meant (resolve links d)) ds)) refl
  where
    lists : ℕ → List (List FieldRow)
    lists k = grouped extendee_of (field_meant true) (pairs_of links ds) (n - k) (empty_lists k)

    go : (b : Bool) → any_below n (map (λ (d : DefinitionRow FieldDescriptorProto). meant (resolve links d)) ds) ≡ b →
        list_from (n - listed) (lists listed) T ≡ map (linked_field links true) (belonging (extended_place links) ds T)
    go true is =
        let all : listed ≡ n = e ∙ ap (λ c. cond c n 0) is in
        let zeroth : n - listed ≡ 0 = omega arith in
        ap₂ (λ f k. list_from f (grouped extendee_of (field_meant true) (pairs_of links ds) f (empty_lists k)) T) zeroth all
        ∙ (ap (list_from 0 (grouped extendee_of (field_meant true) (pairs_of links ds) 0 (empty_lists n))) (sym (zero-add T))
        ∙ (listed_there 0 T (grouped extendee_of (field_meant true) (pairs_of links ds) 0 (empty_lists n))
        ∙ (grouped_at extendee_of (field_meant true) (pairs_of links ds) 0 n T less
        ∙ (ap (λ j. map (field_meant true) (belonging extendee_of (pairs_of links ds) j)) (zero-add T) ∙ belonging_of links T ds))))
    go false is =
        let none : listed ≡ 0 = e ∙ ap (λ c. cond c n 0) is in
        let last : T < n - listed = omega arith in
        listed_before (n - listed) T (lists listed) last
        ∙ (sym (ap (map (field_meant true)) (none_below n T links ds less is)) ∙ belonging_of links T ds)

-- ALL ROWS

pub linked_long : (links : Links) (es : List (DefinitionRow FieldDescriptorProto)) (T : ℕ) (ms : List FlatMessageRow) → length (messages_from links es T ms) ≡ length ms
linked_long links es T [] = refl
linked_long links es T (m ∷ ms) = ap suc (linked_long links es (T + 1) ms)

pub all_both : {X : Type 0} (p : X → Bool) (xs ys : List X) → list_all p xs ≡ true → list_all p ys ≡ true → list_all p (xs ++ ys) ≡ true
all_both p [] ys h k = k
all_both p (x ∷ xs) ys h k = let parts = and_parts (p x) (list_all p xs) h in rw (parts.0) (all_both p xs ys parts.1 k)

-- Messages with the rows that are listed for them have those of the added extensions.
pub grown_alike : (old new : FlatRows) (ms : List MessageRow) (lists : List (Vec FieldTable Global)) (n listed : ℕ) →
    length ms ≡ n → length lists ≡ listed →
    listed ≡ listed_count n (map (λ (d : DefinitionRow FieldDescriptorProto). meant (resolve (links_of (behind old new)) d)) new.extensions) →
    list_rows lists ≡ grouped extendee_of (field_meant true) (pairs_of (links_of (behind old new)) new.extensions) (n - listed) (empty_lists listed) →
    grown_by (list_rows lists) ms ≡ each_from (λ T m. grown_message (further old new T) m) 0 ms
grown_alike old new ms lists n listed long many count are =
    let links = links_of (behind old new) in
    let first : length ms - length (list_rows lists) ≡ n - listed = ap₂ (λ a b. a - b) long (length-map lists (λ (v : Vec FieldTable Global). map field_row v.items) ∙ many) in
    each_alike (λ T m. grown_message (list_from (length ms - length (list_rows lists)) (list_rows lists) T) m) (λ T m. grown_message (further old new T) m) 0 ms
    (λ j m at. let less : 0 + j < n = omega (arith, slice_get_within ms j m at, long) in
    ap (λ more. grown_message more m)
    (ap₂ (λ f ls. list_from f ls (0 + j)) first are ∙ further_listed n (0 + j) links new.extensions listed less count))
