-- Places of items by what the items belong to, from a first place on.
use Rattle.std.specs.Prelude.{◌≡◌, ◌+◌, ◌-◌, ◌<◌, ◌≤◌, ◌∷◌, ◌++◌}
use Rattle.std.proofs.Common.{zero, suc, Bool, Some, None, inl, append-nil}
use Rattle.std.proofs.lemmas.Bool.{eqb-true, eqb-false, eq-eqb, ne_eqb}
use Rattle.std.specs.Prelude.{nat_eq, slice_get, unwrap_or}
use Rattle.prost_reflect_growth.proofs.Common.{ℕ, true, false, cond, List, [], map, length, drop, get_or, Option, refl, sym, ap, ◌∙◌, arith, append_assoc, places_from}
use Rattle.prost_reflect_tables.specs.Indexing.{with_item, empty_lists}
use Rattle.prost_reflect_tables.proofs.Gathering.{behind}
use Rattle.prost_reflect_tables.specs.Linking.{is_place}
use Rattle.prost_reflect_tables.proofs.Grouping.{item_past, item_nowhere}
use Rattle.prost_reflect_tables.proofs.Pushing.{front_left}
use Rattle.prost_reflect_growth.specs.GatheredFrom.{gathered_from}

-- ONE PLACE MORE

same_place : (n i k : ℕ) → nat_eq i k ≡ nat_eq (n + i) (n + k)
same_place n i k = go (nat_eq i k) refl
  where
    go : (b : Bool) → nat_eq i k ≡ b → nat_eq i k ≡ nat_eq (n + i) (n + k)
    go true e = e ∙ sym (eq-eqb (n + i) (n + k) (ap (λ j. n + j) (eqb-true i k e)))
    go false e = e ∙ sym (ne_eqb (n + i) (n + k) (λ same. eqb-false i k e (omega (arith, same))))

-- The same in lists that begin further on.
item_later : {X : Type 0} (x : X) (n k i : ℕ) (lists : List (List X)) → with_item (Some k) x i lists ≡ with_item (Some (n + k)) x (n + i) lists
item_later x n k i [] = refl
item_later x n k i (xs ∷ lists) =
    let next : n + (i + 1) ≡ n + i + 1 = omega arith in
    ap (λ b. cond b (xs ++ x ∷ []) xs ∷ with_item (Some k) x (i + 1) lists) (same_place n i k)
    ∙ ap (λ l. cond (nat_eq (n + i) (n + k)) (xs ++ x ∷ []) xs ∷ l) (item_later x n k (i + 1) lists ∙ ap (λ j. with_item (Some (n + k)) x j lists) next)

pub item_from : {X : Type 0} (x : X) (first k : ℕ) (owner : Option ℕ) (lists new : List (List X)) → owner ≡ Some k → first ≤ k → new ≡ with_item (Some (k - first)) x 0 lists → new ≡ with_item owner x first lists
item_from x first k owner lists new is h e =
    let place : first + (k - first) ≡ k = omega arith in
    let begin : first + 0 ≡ first = omega arith in
    e
    ∙ (item_later x first (k - first) 0 lists
    ∙ (ap (λ j. with_item (Some j) x (first + 0) lists) place
    ∙ (ap (λ j. with_item (Some k) x j lists) begin ∙ ap (λ o. with_item o x first lists) (sym is))))

pub item_front : {X : Type 0} (x : X) (first k : ℕ) (owner : Option ℕ) (lists : List (List X)) → owner ≡ Some k → k < first → lists ≡ with_item owner x first lists
item_front x first k owner lists is h = sym (ap (λ o. with_item o x first lists) is ∙ item_past x first k lists (inl h))

pub item_apart : {X : Type 0} (x : X) (first : ℕ) (owner : Option ℕ) (lists : List (List X)) → owner ≡ None → lists ≡ with_item owner x first lists
item_apart x first owner lists is = sym (ap (λ o. with_item o x first lists) is ∙ item_nowhere x first lists)

-- ALL ITEMS

behind_item : {X : Type 0} (owner : X → Option ℕ) (p : ℕ) (x : X) (xs : List X) (i : ℕ) (lists : List (List ℕ)) → behind owner (p + 1) xs i (with_item (owner x) p i lists) ≡ behind owner p (x ∷ xs) i lists
behind_item owner p x xs i [] = refl
behind_item owner p x xs i (ys ∷ lists) = rw (behind_item owner p x xs (i + 1) lists) (ap (λ l. l ∷ behind owner p (x ∷ xs) (i + 1) lists) (go (is_place i (owner x))))
  where
    go : (b : Bool) → cond b (ys ++ p ∷ []) ys ++ places_from (λ x. is_place i (owner x)) (p + 1) xs ≡ ys ++ cond b (p ∷ places_from (λ x. is_place i (owner x)) (p + 1) xs) (places_from (λ x. is_place i (owner x)) (p + 1) xs)
    go true = append_assoc ys (p ∷ []) (places_from (λ x. is_place i (owner x)) (p + 1) xs)
    go false = refl

behind_none : {X : Type 0} (owner : X → Option ℕ) (p i : ℕ) (lists : List (List ℕ)) → behind owner p [] i lists ≡ lists
behind_none owner p i [] = refl
behind_none owner p i (ys ∷ lists) = rw (append-nil ys) (ap (λ l. ys ∷ l) (behind_none owner p (i + 1) lists))

behind_empty : {X : Type 0} (owner : X → Option ℕ) (p : ℕ) (xs : List X) (T n : ℕ) → behind owner p xs T (empty_lists n) ≡ gathered_from owner p xs T n
behind_empty owner p xs T zero = refl
behind_empty owner p xs T (suc n) = ap (λ l. places_from (λ x. is_place T (owner x)) p xs ∷ l) (behind_empty owner p xs (T + 1) n)

pub gathered_none : {X : Type 0} (owner : X → Option ℕ) (p : ℕ) (xs : List X) (T n : ℕ) (lists : List (List ℕ)) → lists ≡ empty_lists n → behind owner (p + 0) xs T lists ≡ gathered_from owner p xs T n
gathered_none owner p xs T n lists e = ap (behind owner (p + 0) xs T) e ∙ (behind_empty owner (p + 0) xs T n ∙ ap (λ k. gathered_from owner k xs T n) (omega arith))

pub gathered_more : {X : Type 0} (owner : X → Option ℕ) (p T : ℕ) (xs : List X) (k : ℕ) (x : X) (place : ℕ) (belongs : Option ℕ) (old new : List (List ℕ)) →
    k < length xs → x ≡ get_or xs k x → place ≡ p + k → belongs ≡ owner x → new ≡ with_item belongs place T old → behind owner (p + (k + 1)) (drop (k + 1) xs) T new ≡ behind owner (p + k) (drop k xs) T old
gathered_more owner p T xs k x place belongs old new h is at own e =
    let next : p + (k + 1) ≡ p + k + 1 = omega arith in
    ap (λ j. behind owner j (drop (k + 1) xs) T new) next
    ∙ (ap (behind owner (p + k + 1) (drop (k + 1) xs) T) (e ∙ (ap (λ o. with_item o place T old) own ∙ ap (λ j. with_item (owner x) j T old) at))
    ∙ (behind_item owner (p + k) x (drop (k + 1) xs) T old ∙ ap (λ zs. behind owner (p + k) zs T old) (sym (front_left xs k x h is))))

pub gathered_all : {X : Type 0} (owner : X → Option ℕ) (p T : ℕ) (xs left : List X) (lists : List (List ℕ)) → left ≡ [] → lists ≡ behind owner p left T lists
gathered_all owner p T xs left lists e = sym (ap (λ zs. behind owner p zs T lists) e ∙ behind_none owner p T lists)

-- ONE LIST

at_from : {X : Type 0} (owner : X → Option ℕ) (p : ℕ) (xs : List X) (T n k : ℕ) → k < n → unwrap_or (slice_get (gathered_from owner p xs T n) k) [] ≡ places_from (λ x. is_place (T + k) (owner x)) p xs
at_from owner p xs T zero k h = absurd (omega arith)
at_from owner p xs T (suc n) zero h = ap (λ U. places_from (λ x. is_place U (owner x)) p xs) (omega arith)
at_from owner p xs T (suc n) (suc k) h = at_from owner p xs (T + 1) n k (omega arith) ∙ ap (λ U. places_from (λ x. is_place U (owner x)) p xs) (omega arith)

-- A copy of the list of a place.
pub copied_from : {X : Type 0} (owner : X → Option ℕ) (p : ℕ) (xs : List X) (T n k : ℕ) (lists : List (List ℕ)) (copy : List ℕ) → lists ≡ gathered_from owner p xs T n → k < n → copy ≡ unwrap_or (slice_get lists k) [] →
    copy ≡ places_from (λ x. is_place (T + k) (owner x)) p xs
copied_from owner p xs T n k lists copy e h is = is ∙ (ap (λ (ls : List (List ℕ)). unwrap_or (slice_get ls k) []) e ∙ at_from owner p xs T n k h)

-- ROWS

rows_from : {X Y : Type 0} (row : X → Y) (test : Y → Bool) (i : ℕ) (xs : List X) → places_from (λ x. test (row x)) i xs ≡ places_from test i (map row xs)
rows_from row test i [] = refl
rows_from row test i (x ∷ xs) = ap (λ l. cond (test (row x)) (i ∷ l) l) (rows_from row test (i + 1) xs)

rows_gathered : {X Y : Type 0} (row : X → Y) (owner : Y → Option ℕ) (p : ℕ) (xs : List X) (T n : ℕ) → gathered_from (λ x. owner (row x)) p xs T n ≡ gathered_from owner p (map row xs) T n
rows_gathered row owner p xs T zero = refl
rows_gathered row owner p xs T (suc n) =
    ap (λ l. l ∷ gathered_from (λ x. owner (row x)) p xs (T + 1) n) (rows_from row (λ y. is_place T (owner y)) p xs)
    ∙ ap (λ l. places_from (λ y. is_place T (owner y)) p (map row xs) ∷ l) (rows_gathered row owner p xs (T + 1) n)

-- Rows of items belong to what the items belong to.
pub shown_from : {X Y : Type 0} (row : X → Y) (owner : Y → Option ℕ) (xs given : List X) (p q T U n m : ℕ) (lists : List (List ℕ)) → given ≡ xs → p ≡ q → T ≡ U → n ≡ m →
    lists ≡ gathered_from (λ x. owner (row x)) p given T n → lists ≡ gathered_from owner q (map row xs) U m
shown_from row owner xs given p q T U n m lists is start first size e =
    e
    ∙ (ap (λ zs. gathered_from (λ x. owner (row x)) p zs T n) is
    ∙ (ap (λ k. gathered_from (λ x. owner (row x)) k xs T n) start
    ∙ (ap (λ k. gathered_from (λ x. owner (row x)) q xs k n) first
    ∙ (ap (gathered_from (λ x. owner (row x)) q xs U) size ∙ rows_gathered row owner q xs U m))))

pub copied_at : {X : Type 0} (owner : X → Option ℕ) (p : ℕ) (xs : List X) (T n k U : ℕ) (lists : List (List ℕ)) (copy : List ℕ) → lists ≡ gathered_from owner p xs T n → k < n → U ≡ T + k → copy ≡ unwrap_or (slice_get lists k) [] →
    copy ≡ places_from (λ x. is_place U (owner x)) p xs
copied_at owner p xs T n k U lists copy e h at is = copied_from owner p xs T n k lists copy e h is ∙ ap (λ V. places_from (λ x. is_place V (owner x)) p xs) (sym at)
