-- Lists of items, each list at its place.
use Rattle.std.specs.Prelude.{◌≡◌, ◌+◌, ◌<◌, ◌≤◌, ◌∷◌, ◌++◌, ◌≢◌, ◌⊎◌}
use Rattle.prost_reflect_tables.proofs.Common.{ℕ, zero, suc, Bool, true, false, cond, List, [], map, length, Option, Some, None, refl, sym, ap, ◌∙◌, arith, append_assoc, append-nil, get_or, drop, drop-cons, add-one, ⊎_elim, inl, inr, Vec, map-append, drop_all, length-map, filter, nat_lt, slice_set, eq-eqb, ne_eqb, is_place, belonging, messages_from, links_of, linked_enum, linked_rows, FieldTable, IdentityRow, FieldRow, MessageRow, EnumRow, identity_row, field_row, oneof_row, rows_from, MessageTable, EnumTable, FlatRows, IsPartitionPoint, empty_lists, with_item, grouped}
use Rattle.std.proofs.Common.{Global}
use Rattle.prost_reflect_tables.specs.Rows.{enum_row, message_row as table_row}
use Rattle.prost_reflect_tables.specs.declared.tables.OneofTable.{OneofTable}
use Rattle.prost_reflect_tables.proofs.Orders.{same_head, same_tail}

-- No list belongs to no place.
pub item_nowhere : {X : Type 0} (x : X) (i : ℕ) (lists : List (List X)) → with_item None x i lists ≡ lists
item_nowhere x i [] = refl
item_nowhere x i (xs ∷ lists) = ap (λ l. xs ∷ l) (item_nowhere x (i + 1) lists)

-- One item more is grouped by adding it first.
pub item_grouped : {X Y : Type 0} (place : X → Option ℕ) (row : X → Y) (x : X) (xs : List X) (i : ℕ) (lists : List (List Y)) → grouped place row xs i (with_item (place x) (row x) i lists) ≡ grouped place row (x ∷ xs) i lists
item_grouped place row x xs i [] = refl
item_grouped place row x xs i (ys ∷ lists) = rw (item_grouped place row x xs (i + 1) lists) (ap (λ l. l ∷ grouped place row (x ∷ xs) (i + 1) lists) (go (is_place i (place x))))
  where
    go : (b : Bool) → cond b (ys ++ row x ∷ []) ys ++ map row (belonging place xs i) ≡ ys ++ map row (cond b (x ∷ belonging place xs i) (belonging place xs i))
    go true = append_assoc ys (row x ∷ []) (map row (belonging place xs i))
    go false = refl

pub grouped_none : {X Y : Type 0} (place : X → Option ℕ) (row : X → Y) (i : ℕ) (lists : List (List Y)) → grouped place row [] i lists ≡ lists
grouped_none place row i [] = refl
grouped_none place row i (ys ∷ lists) = rw (append-nil ys) (ap (λ l. ys ∷ l) (grouped_none place row (i + 1) lists))

-- Items that are shown.
pub item_shown : {X Y : Type 0} (v : X → Y) (place : Option ℕ) (x : X) (i : ℕ) (lists : List (List X)) → map (map v) (with_item place x i lists) ≡ with_item place (v x) i (map (map v) lists)
item_shown v place x i [] = refl
item_shown v place x i (xs ∷ lists) = rw (item_shown v place x (i + 1) lists) (ap (λ l. l ∷ with_item place (v x) (i + 1) (map (map v) lists)) (go (is_place i place)))
  where
    go : (b : Bool) → map v (cond b (xs ++ x ∷ []) xs) ≡ cond b (map v xs ++ v x ∷ []) (map v xs)
    go true = map-append v xs (x ∷ [])
    go false = refl

pub empty_shown : {X Y : Type 0} (v : X → Y) (n : ℕ) → map (map v) (empty_lists n) ≡ empty_lists n
empty_shown v zero = refl
empty_shown v (suc n) = ap (λ l. [] ∷ l) (empty_shown v n)

-- A list one item longer.
pub item_past : {X : Type 0} (x : X) (i j : ℕ) (lists : List (List X)) → (j < i) ⊎ (i + length lists ≤ j) → with_item (Some j) x i lists ≡ lists
item_past x i j [] h = refl
item_past x i j (xs ∷ lists) h =
    let other : i ≢ j = λ same. ⊎_elim (λ (less : j < i). absurd (omega arith)) (λ (past : i + length (xs ∷ lists) ≤ j). absurd (omega arith)) h in
    let further : (j < i + 1) ⊎ ((i + 1) + length lists ≤ j) = ⊎_elim (λ (less : j < i). inl (omega arith)) (λ (past : i + length (xs ∷ lists) ≤ j). inr (omega arith)) h in
    rw (ne_eqb i j other) (ap (λ l. xs ∷ l) (item_past x (i + 1) j lists further))

pub item_set : {V X : Type 0} (v : V → List X) (x : X) (lists : List V) (k i : ℕ) (new d : V) → k < length lists → v new ≡ v (get_or lists k d) ++ x ∷ [] → map v (slice_set lists k new) ≡ with_item (Some (i + k)) x i (map v lists)
item_set v x [] k i new d h e = absurd (omega arith)
item_set v x (y ∷ lists) zero i new d h e =
    let here : i ≡ i + 0 = omega arith in
    rw (eq-eqb i (i + 0) here, item_past x (i + 1) (i + 0) (map v lists) (inl (omega arith))) (ap (λ l. l ∷ map v lists) e)
item_set v x (y ∷ lists) (suc k) i new d h e =
    let other : i ≢ i + suc k = λ same. absurd (omega arith) in
    let place : (i + 1) + k ≡ i + suc k = omega arith in
    rw (ne_eqb i (i + suc k) other) (ap (λ l. v y ∷ l) (item_set v x lists k (i + 1) new d (omega arith) e ∙ ap (λ j. with_item (Some j) x (i + 1) (map v lists)) place))

empty_more : {X : Type 0} (n : ℕ) → empty_lists {X = X} n ++ [] ∷ [] ≡ empty_lists (suc n)
empty_more zero = refl
empty_more (suc n) = ap (λ l. [] ∷ l) (empty_more n)

abbrev pub items_in : {X : Type 0} → Vec X Global → List X
items_in v = v.items

pub empty_pushed : {X : Type 0} (n : ℕ) (old new : List (Vec X Global)) (v : Vec X Global) → new ≡ old ++ v ∷ [] → v.items ≡ [] → map items_in old ≡ empty_lists n → map items_in new ≡ empty_lists (n + 1)
empty_pushed n old new v e none h =
    ap (map items_in) e ∙ (map-append items_in old (v ∷ []) ∙ (ap (λ l. map items_in old ++ l ∷ []) none ∙ (ap (λ l. l ++ [] ∷ []) h ∙ (empty_more n ∙ ap empty_lists (sym (add-one n))))))

pub item_pushed : {X : Type 0} (place : Option ℕ) (k : ℕ) (x : X) (lists : List (Vec X Global)) (new old : Vec X Global) → place ≡ Some k → k < length lists → old ≡ get_or lists k old → new.items ≡ old.items ++ x ∷ [] →
    map items_in (slice_set lists k new) ≡ with_item place x 0 (map items_in lists)
item_pushed place k x lists new old is h at e =
    let zeroth : 0 + k ≡ k = omega arith in
    item_set items_in x lists k 0 new old h (e ∙ ap (λ (v : Vec _ Global). v.items ++ x ∷ []) at) ∙ (ap (λ j. with_item (Some j) x 0 (map items_in lists)) zeroth ∙ ap (λ p. with_item p x 0 (map items_in lists)) (sym is))

pub item_outside : {X : Type 0} (place : Option ℕ) (k : ℕ) (x : X) (lists : List (Vec X Global)) → place ≡ Some k → length lists ≤ k → map items_in lists ≡ with_item place x 0 (map items_in lists)
item_outside place k x lists is h = sym (ap (λ p. with_item p x 0 (map items_in lists)) is ∙ item_past x 0 k (map items_in lists) (inr (omega (arith, length-map lists items_in, h))))

pub item_none : {X : Type 0} (place : Option ℕ) (x : X) (lists : List (Vec X Global)) → place ≡ None → map items_in lists ≡ with_item place x 0 (map items_in lists)
item_none place x lists is = sym (ap (λ p. with_item p x 0 (map items_in lists)) is ∙ item_nowhere x 0 (map items_in lists))

-- THE LIST OF A PLACE

empty_length : (X : Type 0) (n : ℕ) → length (empty_lists {X = X} n) ≡ n
empty_length X zero = refl
empty_length X (suc n) = ap suc (empty_length X n)

grouped_length : {X Y : Type 0} (place : X → Option ℕ) (row : X → Y) (xs : List X) (i : ℕ) (lists : List (List Y)) → length (grouped place row xs i lists) ≡ length lists
grouped_length place row xs i [] = refl
grouped_length place row xs i (ys ∷ lists) = ap suc (grouped_length place row xs (i + 1) lists)

pub groups_length : {X Y : Type 0} (place : X → Option ℕ) (row : X → Y) (xs : List X) (n : ℕ) (lists : List (Vec Y Global)) → map items_in lists ≡ grouped place row xs 0 (empty_lists n) → length lists ≡ n
groups_length place row xs n lists e = sym (length-map lists items_in) ∙ (ap length e ∙ (grouped_length place row xs 0 (empty_lists n) ∙ empty_length _ n))

group_from : {X Y : Type 0} (place : X → Option ℕ) (row : X → Y) (xs : List X) (i n k : ℕ) (lists : List (Vec Y Global)) (d : Vec Y Global) → map items_in lists ≡ grouped place row xs i (empty_lists n) → k < n → (get_or lists k d).items ≡ map row (belonging place xs (i + k))
group_from place row xs i zero k lists d e h = absurd (omega arith)
group_from place row xs i (suc n) k [] d e h = absurd cc
group_from place row xs i (suc n) zero (v ∷ lists) d e h = same_head (items_in v) (map row (belonging place xs i)) (map items_in lists) (grouped place row xs (i + 1) (empty_lists n)) e ∙ ap (λ j. map row (belonging place xs j)) (omega arith)
group_from place row xs i (suc n) (suc k) (v ∷ lists) d e h =
    group_from place row xs (i + 1) n k lists d (same_tail (items_in v) (map row (belonging place xs i)) (map items_in lists) (grouped place row xs (i + 1) (empty_lists n)) e) (omega arith) ∙ ap (λ j. map row (belonging place xs j)) (omega arith)

pub group_of : {X Y : Type 0} (place : X → Option ℕ) (row : X → Y) (xs : List X) (n k : ℕ) (lists : List (Vec Y Global)) (v : Vec Y Global) → map items_in lists ≡ grouped place row xs 0 (empty_lists n) → k < n → v ≡ get_or lists k v → v.items ≡ map row (belonging place xs k)
group_of place row xs n k lists v e h at = ap items_in at ∙ (group_from place row xs 0 n k lists v e h ∙ ap (λ j. map row (belonging place xs j)) (omega arith))

-- LISTS OF FIELDS

twice : {A B C : Type 0} (f : A → B) (g : B → C) (xs : List A) → map (λ x. g (f x)) xs ≡ map g (map f xs)
twice f g [] = refl
twice f g (x ∷ xs) = ap (λ l. g (f x) ∷ l) (twice f g xs)

-- The definition at a place is grouped.
pub more_grouped : {D X Y : Type 0} (v : D → X) (place : X → Option ℕ) (row : X → Y) (xs : List D) (k : ℕ) (d : D) (old new : List (List Y)) →
    k < length xs → d ≡ get_or xs k d → new ≡ with_item (place (v d)) (row (v d)) 0 old → grouped place row (map v (drop (k + 1) xs)) 0 new ≡ grouped place row (map v (drop k xs)) 0 old
more_grouped v place row xs k d old new h is e =
    let front : drop k xs ≡ d ∷ drop (k + 1) xs = drop-cons xs k d h ∙ (ap (λ x. x ∷ drop (suc k) xs) (sym is) ∙ ap (λ j. d ∷ drop j xs) (sym (add-one k))) in
    ap (grouped place row (map v (drop (k + 1) xs)) 0) e ∙ (item_grouped place row (v d) (map v (drop (k + 1) xs)) 0 old ∙ ap (λ ds. grouped place row (map v ds) 0 old) (sym front))

-- At the end.
pub all_grouped : {D X Y : Type 0} (v : D → X) (place : X → Option ℕ) (row : X → Y) (xs : List D) (k : ℕ) (lists : List (List Y)) → length xs ≤ k → lists ≡ grouped place row (map v (drop k xs)) 0 lists
all_grouped v place row xs k lists h = sym (grouped_none place row 0 lists) ∙ ap (λ ds. grouped place row (map v ds) 0 lists) (sym (drop_all k xs h))

-- SMALLER NUMBERS

count_at : {X : Type 0} (p : X → Bool) (xs : List X) (k : ℕ) → k ≤ length xs → ((i : ℕ) (d : X) → i < length xs → i < k → p (get_or xs i d) ≡ true) → ((i : ℕ) (d : X) → i < length xs → k ≤ i → p (get_or xs i d) ≡ false) → k ≡ length (filter p xs)
count_at p [] k h under over = omega arith
count_at p (x ∷ xs) zero h under over = rw (over 0 x (omega arith) (omega arith)) (count_at p xs zero (omega arith) (λ i d lt less. absurd (omega arith)) (λ i d lt le. over (suc i) d (omega arith) (omega arith)))
count_at p (x ∷ xs) (suc k) h under over = rw (under 0 x (omega arith) (omega arith)) (ap suc (count_at p xs k (omega arith) (λ i d lt less. under (suc i) d (omega arith) (omega arith)) (λ i d lt le. over (suc i) d (omega arith) (omega arith))))

smaller_rows : (n : ℕ) (fields : List FieldTable) → length (filter (λ (r : FieldRow). nat_lt r.number n) (map field_row fields)) ≡ length (filter (λ (f : FieldTable). nat_lt f.number n) fields)
smaller_rows n [] = refl
smaller_rows n (f ∷ fields) = go (nat_lt f.number n) (smaller_rows n fields)
  where
    go : (b : Bool) → length (filter (λ (r : FieldRow). nat_lt r.number n) (map field_row fields)) ≡ length (filter (λ (f : FieldTable). nat_lt f.number n) fields) →
        length (cond b (field_row f ∷ filter (λ (r : FieldRow). nat_lt r.number n) (map field_row fields)) (filter (λ (r : FieldRow). nat_lt r.number n) (map field_row fields)))
        ≡ length (cond b (f ∷ filter (λ (f : FieldTable). nat_lt f.number n) fields) (filter (λ (f : FieldTable). nat_lt f.number n) fields))
    go true e = ap suc e
    go false e = e

pub smaller_count : (n k : ℕ) (fields : List FieldTable) → k ≤ length fields → IsPartitionPoint (λ (y : FieldTable). nat_lt y.number n ≡ true) (λ (y : FieldTable). nat_lt y.number n ≡ false) fields k →
    k ≡ length (filter (λ (r : FieldRow). nat_lt r.number n) (map field_row fields))
smaller_count n k fields h point = count_at (λ (f : FieldTable). nat_lt f.number n) fields k h (λ i d lt less. point.0 i d (omega arith) less) (λ i d lt le. point.1 i d le lt) ∙ sym (smaller_rows n fields)

-- ONEOFS

pub same_oneof : (t : OneofTable) (id : IdentityRow) (members : List ℕ) → identity_row t.id ≡ id → t.fields.items ≡ members → oneof_row t ≡ record { id = id; fields = members }
same_oneof t id members n e = ap (λ (r : IdentityRow). record (oneof_row t) { id = r }) n ∙ ap (λ (l : List ℕ). record (oneof_row t) { id = id; fields = l }) e

-- ALL

pub rows_linked : (messages : List MessageTable) (enums : List EnumTable) (rows : FlatRows) → map table_row messages ≡ messages_from (links_of rows) rows.extensions 0 rows.messages → map enum_row enums ≡ map linked_enum rows.enums →
    rows_from messages enums ≡ linked_rows rows
rows_linked messages enums rows e f = ap (λ (ms : List MessageRow). record (rows_from messages enums) { messages = ms }) e ∙ ap (λ (es : List EnumRow). record (linked_rows rows) { enums = es }) f
