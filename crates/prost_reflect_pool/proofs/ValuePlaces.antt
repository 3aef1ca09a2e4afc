-- The first value of a full name among those of all enums.
use Rattle.std.specs.Prelude.{◌≡◌, ◌+◌, ◌<◌, ◌||◌, ◌∷◌, IfSome}
use Rattle.prost_reflect_pool.proofs.Common.{ℕ, suc, Bool, true, false, cond, List, [], map, length, Option, Some, None, refl, sym, ap, ◌∙◌, subst, arith, unwrap_or, option_map, is_some, slice_get, slice_get-map, find, list_any, bytes_eq, is_eq, nat_cmp, ordering_index, Ordering, IsNonDecreasingBy, All, All-head, All-tail, All-weaker, passes, EnumValueRow, EnumRow, TableRows, places_from, all_places, pairs_at, pairs_from, list_at, sorted_by, text_at, text_before, text_in, IsInside, pairs_inside, values_at, values_or_none, value_place, value_places}
use Rattle.std.specs.Bool.{one_answer}
use Rattle.std.specs.Cmp.Lexicographic.{slice_cmp}
use Rattle.std.proofs.lemmas.Cmp.{nat_list_cmp_total}
use Rattle.std.proofs.lemmas.List.Folds.{list_any-append}
use Rattle.std.proofs.lemmas.Map.Text.{is_eq-slice_cmp}
use Rattle.std.proofs.lemmas.Slice.Eq.{bytes_eq-Decides}
use Rattle.prost_reflect_pool.proofs.InCatalog.{value_full_name, value_full_names}
use Rattle.prost_reflect_pool.proofs.InOrder.{key_found}
use Rattle.prost_reflect_pool.proofs.PoolRanges.{slice_get_missing}

-- THE FIRST THAT PASSES

-- Tests that answer alike where the fact holds.
find_alike : {X : Type 0} (P : X → Type 0) (p q : X → Bool) (xs : List X) → All P xs → ((x : X) → P x → p x ≡ q x) → find p xs ≡ find q xs
find_alike P p q [] all h = refl
find_alike P p q (x ∷ xs) all h =
    ap (λ b. cond b (Some x) (find p xs)) (h x (All-head P x xs all))
    ∙ ap (λ o. cond (q x) (Some x) o) (find_alike P p q xs (All-tail P x xs all) h)

find_holds : {X : Type 0} (P : X → Type 0) (p : X → Bool) (xs : List X) → All P xs → IfSome (find p xs) P
find_holds P p [] all = tt
find_holds {X} P p (x ∷ xs) all = go (p x) (find_holds P p xs (All-tail P x xs all))
  where
    go : (b : Bool) → IfSome (find p xs) P → IfSome (cond b (Some x) (find p xs)) P
    go true more = All-head P x xs all
    go false more = more

some_found : {X : Type 0} (p : X → Bool) (xs : List X) → is_some (find p xs) ≡ list_any p xs
some_found p [] = refl
some_found p (x ∷ xs) = go (p x) (some_found p xs)
  where
    go : (b : Bool) → is_some (find p xs) ≡ list_any p xs → is_some (cond b (Some x) (find p xs)) ≡ (b || list_any p xs)
    go true more = refl
    go false more = more

any_alike : {X : Type 0} (p q : X → Bool) (xs : List X) → ((x : X) → p x ≡ q x) → list_any p xs ≡ list_any q xs
any_alike p q [] h = refl
any_alike p q (x ∷ xs) h = ap (λ b. b || list_any p xs) (h x) ∙ ap (λ b. q x || b) (any_alike p q xs h)

any_map : {X Y : Type 0} (p : Y → Bool) (f : X → Y) (xs : List X) → list_any p (map f xs) ≡ list_any (λ x. p (f x)) xs
any_map p f [] = refl
any_map p f (x ∷ xs) = ap (λ b. p (f x) || b) (any_map p f xs)

-- PAIRS

-- Some place passes where some item does, by a test of places that tells what one of items does.
any_placed : {X : Type 0} (q : X → Bool) (p : ℕ → Bool) (k : ℕ) (xs : List X) → ((i : ℕ) → p (k + i) ≡ passes (slice_get xs i) q) → list_any p (places_from (λ (x : X). true) k xs) ≡ list_any q xs
any_placed q p k [] h = refl
any_placed q p k (x ∷ xs) h =
    let here : p k ≡ q x = ap p (omega arith) ∙ h 0 in
    ap (λ b. b || list_any p (places_from (λ y. true) (k + 1) xs)) here
    ∙ ap (λ b. q x || b) (any_placed q p (k + 1) xs (λ i. ap p (omega arith) ∙ h (suc i)))

any_paired : {X : Type 0} (q : X → Bool) (whole : List (List X)) (k : ℕ) (lists : List (List X)) → ((i : ℕ) → slice_get whole (k + i) ≡ slice_get lists i) → list_any (λ (p : ℕ × ℕ). passes (slice_get (list_at whole p.0) p.1) q) (pairs_from k lists) ≡ list_any (list_any q) lists
any_paired q whole k [] h = refl
any_paired {X} q whole k (xs ∷ lists) h =
    let test : ℕ × ℕ → Bool = λ p. passes (slice_get (list_at whole p.0) p.1) q in
    let at : slice_get whole k ≡ Some xs = ap (slice_get whole) (omega arith) ∙ h 0 in
    let here : (i : ℕ) → test (k, 0 + i) ≡ passes (slice_get xs i) q = (λ i. ap (λ (o : Option (List X)). passes (slice_get (unwrap_or o []) (0 + i)) q) at ∙ ap (λ (j : ℕ). passes (slice_get xs j) q) (omega arith)) in
    list_any-append test (pairs_at k xs) (pairs_from (k + 1) lists)
    ∙ (ap (λ b. b || list_any test (pairs_from (k + 1) lists)) (any_map test (λ (place : ℕ). (k, place)) (all_places xs) ∙ any_placed q (λ place. test (k, place)) 0 xs here)
    ∙ ap (λ b. list_any q xs || b) (any_paired q whole (k + 1) lists (λ i. ap (slice_get whole) (omega arith) ∙ h (suc i))))

-- VALUES

abbrev lists_of : TableRows → List (List EnumValueRow)
lists_of rows = map (λ (e : EnumRow). e.values) rows.enums

pub values_listed : (rows : TableRows) (E : ℕ) → list_at (lists_of rows) E ≡ values_at rows E
values_listed rows E = ap (λ (o : Option (List EnumValueRow)). unwrap_or o []) (slice_get-map (λ (e : EnumRow). e.values) rows.enums E) ∙ go (slice_get rows.enums E)
  where
    go : (o : Option EnumRow) → unwrap_or (option_map (λ (e : EnumRow). e.values) o) [] ≡ values_or_none o
    go None = refl
    go (Some e) = refl

names_listed : (rows : TableRows) (E : ℕ) → list_at (value_full_names rows.enums) E ≡ map value_full_name (values_at rows E)
names_listed rows E = ap (λ (o : Option (List (List ℕ))). unwrap_or o []) (slice_get-map (λ (e : EnumRow). map value_full_name e.values) rows.enums E) ∙ go (slice_get rows.enums E)
  where
    go : (o : Option EnumRow) → unwrap_or (option_map (λ (e : EnumRow). map value_full_name e.values) o) [] ≡ map value_full_name (values_or_none o)
    go None = refl
    go (Some e) = refl

abbrev pub IsValue : TableRows → ℕ × ℕ → Type 0
IsValue rows p = p.1 < length (values_at rows p.0)

pub value_inside : (rows : TableRows) (p : ℕ × ℕ) → IsInside (lists_of rows) p → IsValue rows p
value_inside rows p inside = subst (λ (values : List EnumValueRow). p.1 < length values) (values_listed rows p.0) inside

all_values : (rows : TableRows) → All (IsValue rows) (value_places rows)
all_values rows = All-weaker (IsInside (lists_of rows)) (IsValue rows) (value_inside rows) (value_places rows) (pairs_inside (lists_of rows))

abbrev has_name : TableRows → List ℕ → ℕ × ℕ → Bool
has_name rows w p = passes (slice_get (values_at rows p.0) p.1) (λ (v : EnumValueRow). bytes_eq v.id.full_name w)

abbrev pub value_name_order : TableRows → List ℕ → ℕ × ℕ → Ordering
value_name_order rows w p = slice_cmp nat_cmp (text_in (value_full_names rows.enums) p) w

named_here : (rows : TableRows) (w : List ℕ) (p : ℕ × ℕ) → IsValue rows p → is_eq (value_name_order rows w p) ≡ has_name rows w p
named_here rows w p there =
    is_eq-slice_cmp (text_in (value_full_names rows.enums) p) w
    ∙ (ap (λ (names : List (List ℕ)). bytes_eq (text_at names p.1) w) (names_listed rows p.0)
    ∙ (ap (λ (o : Option (List ℕ)). bytes_eq (unwrap_or o []) w) (slice_get-map value_full_name (values_at rows p.0) p.1)
    ∙ go (slice_get (values_at rows p.0) p.1) refl))
  where
    go : (o : Option EnumValueRow) → slice_get (values_at rows p.0) p.1 ≡ o → bytes_eq (unwrap_or (option_map value_full_name o) []) w ≡ passes o (λ (v : EnumValueRow). bytes_eq v.id.full_name w)
    go None at = absurd (slice_get_missing (values_at rows p.0) p.1 there at)
    go (Some v) at = refl

-- What is found among the values in the order of their full names.
pub value_found : (rows : TableRows) (w : List ℕ) (places : List (ℕ × ℕ)) (r : Option (ℕ × ℕ)) → places ≡ sorted_by (text_before (text_in (value_full_names rows.enums))) (value_places rows) →
    (IsNonDecreasingBy (λ p. ordering_index (value_name_order rows w p)) places → r ≡ find (λ p. is_eq (value_name_order rows w p)) places) → r ≡ value_place rows w
value_found rows w places r e h =
    key_found (slice_cmp nat_cmp) nat_list_cmp_total (text_in (value_full_names rows.enums)) w (value_places rows) places r e h
    ∙ find_alike (IsValue rows) (λ p. is_eq (value_name_order rows w p)) (has_name rows w) (value_places rows) (all_values rows) (named_here rows w)

pub value_there : (rows : TableRows) (w : List ℕ) → IfSome (value_place rows w) (IsValue rows)
value_there rows w = find_holds (IsValue rows) (has_name rows w) (value_places rows) (all_values rows)

turned : (a b : List ℕ) → bytes_eq a b ≡ bytes_eq b a
turned a b = one_answer (bytes_eq a b) (bytes_eq b a) (bytes_eq-Decides a b) (λ e. sym ((bytes_eq-Decides b a).0 e), λ e. (bytes_eq-Decides b a).1 (sym e))

-- A value is found where some enum has one of the full name.
pub value_known : (rows : TableRows) (w : List ℕ) → is_some (value_place rows w) ≡ list_any (λ (e : EnumRow). list_any (λ (v : EnumValueRow). bytes_eq w v.id.full_name) e.values) rows.enums
value_known rows w =
    let named : EnumValueRow → Bool = λ v. bytes_eq v.id.full_name w in
    some_found (has_name rows w) (value_places rows)
    ∙ (any_alike (has_name rows w) (λ (p : ℕ × ℕ). passes (slice_get (list_at (lists_of rows) p.0) p.1) named) (value_places rows) (λ p. ap (λ (values : List EnumValueRow). passes (slice_get values p.1) named) (sym (values_listed rows p.0)))
    ∙ (any_paired named (lists_of rows) 0 (lists_of rows) (λ i. ap (slice_get (lists_of rows)) (omega arith))
    ∙ (any_map (list_any named) (λ (e : EnumRow). e.values) rows.enums
    ∙ any_alike (λ (e : EnumRow). list_any named e.values) (λ (e : EnumRow). list_any (λ (v : EnumValueRow). bytes_eq w v.id.full_name) e.values) rows.enums
    (λ e. any_alike named (λ (v : EnumValueRow). bytes_eq w v.id.full_name) e.values (λ v. turned v.id.full_name w)))))
