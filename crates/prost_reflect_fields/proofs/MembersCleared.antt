-- Clearing the members of a oneof one after another.
use Rattle.std.specs.Prelude.{◌≡◌, ◌+◌, ◌<◌, ◌&&◌, ◌||◌, ◌∷◌, ◌++◌}
use Rattle.prost_reflect_fields.proofs.Common.{ℕ, zero, suc, length, drop, drop-cons, get_or, arith, Bool, true, false, not, nat_eq, List, [], map, Option, Some, None, refl, ap, sym, ◌∙◌, true≢false, slice_get, option_map, option_to_list, ne_eqb, eqb-true, eqb-false, and_parts, or_left, or_right, slice_get-map, same_Some, list_any, option_and_then, Field, field_of, is_sibling, same_oneof, passes, field_number, FieldRow, field_row, TableRows, FieldSlot, PooledType, pool_rows, fields_of, IsAscending, without_values, known_of, oneof_of, are_siblings, is_member, rows_at, HasMembers}
use Rattle.prost_reflect_tables.specs.declared.tables.FieldTable.{FieldTable}
use Rattle.prost_reflect_tables.specs.Shown.{schema_field}
use Rattle.prost_reflect_tables.proofs.Fields.{known_rows}
use Rattle.prost_reflect_fields.proofs.SlotChanges.{without_both, without_none, without_same_test}

module _ (f : FieldTable) (o : Option ℕ) (n : ℕ) where
  own : (k : ℕ) → nat_eq f.number n ≡ true → is_member (f ∷ []) o n k ≡ false
  own k is = cases (nat_eq k n) refl
    where
      none : (b : Bool) → (false && b) || false ≡ false
      none b = refl

      cases : (b : Bool) → nat_eq k n ≡ b → not b && ((nat_eq f.number k && same_oneof f.oneof o) || false) ≡ false
      cases true at = refl
      cases false at = ap (λ b. (b && same_oneof f.oneof o) || false) (ne_eqb f.number k (λ e. eqb-false k n at (sym e ∙ eqb-true f.number n is)))

  apart : (k : ℕ) → same_oneof f.oneof o ≡ false → is_member (f ∷ []) o n k ≡ false
  apart k other = ap (λ b. not (nat_eq k n) && ((nat_eq f.number k && b) || false)) other ∙ none (nat_eq k n) (nat_eq f.number k)
    where
      none : (b c : Bool) → not b && ((c && false) || false) ≡ false
      none true c = refl
      none false true = refl
      none false false = refl

  pub own_stays : {V : Type 0} (es : List (ℕ × FieldSlot V)) → nat_eq f.number n ≡ true → es ≡ without_values (is_member (f ∷ []) o n) es
  own_stays es is = sym (without_none (is_member (f ∷ []) o n) es (λ k. own k is))

  pub other_stays : {V : Type 0} (es : List (ℕ × FieldSlot V)) → same_oneof f.oneof o ≡ false → es ≡ without_values (is_member (f ∷ []) o n) es
  other_stays es other = sym (without_none (is_member (f ∷ []) o n) es (λ k. apart k other))

  both : (rest : List FieldTable) (k : ℕ) → is_member (f ∷ rest) o n k ≡ (is_member (f ∷ []) o n k || is_member rest o n k)
  both rest k = cases (nat_eq k n) (nat_eq f.number k && same_oneof f.oneof o) (list_any (λ g. nat_eq g.number k && same_oneof g.oneof o) rest)
    where
      cases : (a b c : Bool) → not a && (b || c) ≡ ((not a && (b || false)) || (not a && c))
      cases true b c = refl
      cases false true c = refl
      cases false false c = refl

  -- the first one, and then the others
  pub then_cleared : {V : Type 0} (rest : List FieldTable) (es : List (ℕ × FieldSlot V)) → IsAscending es → without_values (is_member rest o n) (without_values (is_member (f ∷ []) o n) es) ≡ without_values (is_member (f ∷ rest) o n) es
  then_cleared rest es s = without_both (is_member rest o n) (is_member (f ∷ []) o n) (is_member (f ∷ rest) o n) es s (both rest)

pub all_cleared : {V : Type 0} (o : Option ℕ) (n : ℕ) (es : List (ℕ × FieldSlot V)) → without_values (is_member [] o n) es ≡ es
all_cleared o n es = without_none (is_member [] o n) es (λ k. none (nat_eq k n))
  where
    none : (b : Bool) → not b && false ≡ false
    none true = refl
    none false = refl

-- THE ROWS AT PLACES

-- what is left of the rows at a place
pub row_and_rest : (table : List FieldTable) (places : List ℕ) (i : ℕ) (f : FieldTable) → i < length places → slice_get table (get_or places i 0) ≡ Some f → rows_at table (drop i places) ≡ f ∷ rows_at table (drop (i + 1) places)
row_and_rest table places i f l at =
    let step : suc i ≡ i + 1 = omega arith in
    ap (rows_at table) (drop-cons places i 0 l) ∙ (ap (λ (o : Option FieldTable). option_to_list o ++ rows_at table (drop (suc i) places)) at ∙ ap (λ (j : ℕ). f ∷ rows_at table (drop j places)) step)

pub no_row_and_rest : (table : List FieldTable) (places : List ℕ) (i : ℕ) → i < length places → slice_get table (get_or places i 0) ≡ None → rows_at table (drop i places) ≡ rows_at table (drop (i + 1) places)
no_row_and_rest table places i l at =
    let step : suc i ≡ i + 1 = omega arith in
    ap (rows_at table) (drop-cons places i 0 l) ∙ (ap (λ (o : Option FieldTable). option_to_list o ++ rows_at table (drop (suc i) places)) at ∙ ap (λ (j : ℕ). rows_at table (drop j places)) step)

any_at : {X : Type 0} (p : X → Bool) (xs : List X) (i : ℕ) (x : X) → slice_get xs i ≡ Some x → p x ≡ true → list_any p xs ≡ true
any_at p [] i x at h = absurd cc
any_at p (y ∷ xs) zero x at h = or_left (p y) (list_any p xs) (ap p (same_Some y x at) ∙ h)
any_at p (y ∷ xs) (suc i) x at h = or_right (p y) (list_any p xs) (any_at p xs i x at h)

-- a row that passes is one of the rows
rows_among : (p : FieldTable → Bool) (table : List FieldTable) (places : List ℕ) → list_any p (rows_at table places) ≡ true → list_any p table ≡ true
rows_among p table [] h = absurd (true≢false (sym h))
rows_among p table (i ∷ places) h = of (slice_get table i) refl h (rows_among p table places)
  where
    here : (f : FieldTable) (b : Bool) → slice_get table i ≡ Some f → p f ≡ b → (b || list_any p (rows_at table places)) ≡ true → (list_any p (rows_at table places) ≡ true → list_any p table ≡ true) → list_any p table ≡ true
    here f true at is h more = any_at p table i f at is
    here f false at is h more = more h

    of : (o : Option FieldTable) → slice_get table i ≡ o → list_any p (option_to_list o ++ rows_at table places) ≡ true → (list_any p (rows_at table places) ≡ true → list_any p table ≡ true) → list_any p table ≡ true
    of None at h more = more h
    of (Some f) at h more = here f (p f) at refl h more

any_listed : (p : FieldTable → Bool) (table : List FieldTable) (places : List ℕ) (i : ℕ) (f : FieldTable) → slice_get table i ≡ Some f → p f ≡ true → list_any (nat_eq i) places ≡ true → list_any p (rows_at table places) ≡ true
any_listed p table [] i f at is h = absurd (true≢false (sym h))
any_listed p table (j ∷ places) i f at is h = go (nat_eq i j) refl h (any_listed p table places i f at is)
  where
    first : (o : Option FieldTable) → o ≡ Some f → list_any p (option_to_list o ++ rows_at table places) ≡ true
    first None e = absurd cc
    first (Some g) e = or_left (p g) (list_any p (rows_at table places)) (ap p (same_Some g f e) ∙ is)

    behind : (o : Option FieldTable) → list_any p (rows_at table places) ≡ true → list_any p (option_to_list o ++ rows_at table places) ≡ true
    behind None h = h
    behind (Some g) h = or_right (p g) (list_any p (rows_at table places)) h

    go : (b : Bool) → nat_eq i j ≡ b → (b || list_any (nat_eq i) places) ≡ true → (list_any (nat_eq i) places ≡ true → list_any p (rows_at table places) ≡ true) → list_any p (option_to_list (slice_get table j) ++ rows_at table places) ≡ true
    go true e h more = first (slice_get table j) (ap (slice_get table) (sym (eqb-true i j e)) ∙ at)
    go false e h more = behind (slice_get table j) (more h)

-- some row passes
abbrev Passing : (FieldTable → Bool) → List FieldTable → Type 0
Passing p table = (i : ℕ) × (f : FieldTable) × (slice_get table i ≡ Some f) × (p f ≡ true)

some_passes : (p : FieldTable → Bool) (table : List FieldTable) → list_any p table ≡ true → Passing p table
some_passes p [] h = absurd (true≢false (sym h))
some_passes p (f ∷ table) h = go (p f) refl h (some_passes p table)
  where
    go : (b : Bool) → p f ≡ b → (b || list_any p table) ≡ true → (list_any p table ≡ true → Passing p table) → Passing p (f ∷ table)
    go true is h more = (0, f, refl, is)
    go false is h more = let rest = more h in (suc rest.0, rest.1, rest.2, rest.3)

-- where each row that passes is listed, the listed ones are as good as all
pub listed_rows : (p : FieldTable → Bool) (table : List FieldTable) (places : List ℕ) → ((i : ℕ) (f : FieldTable) → slice_get table i ≡ Some f → p f ≡ true → list_any (nat_eq i) places ≡ true) → list_any p (rows_at table places) ≡ list_any p table
listed_rows p table places listed = go (list_any p (rows_at table places)) (list_any p table) refl refl
  where
    go : (a b : Bool) → list_any p (rows_at table places) ≡ a → list_any p table ≡ b → a ≡ b
    go true true l r = refl
    go false false l r = refl
    go true false l r = sym (rows_among p table places l) ∙ r
    go false true l r = let one = some_passes p table r in sym l ∙ any_listed p table places one.0 one.1 one.2 one.3 (listed one.0 one.1 one.2 one.3)

-- THE ROWS AND THE FIELDS

any_shown : (p : Field → Bool) (rows : TableRows) (table : List FieldTable) → list_any p (map (schema_field rows) (map field_row table)) ≡ list_any (λ f. p (schema_field rows (field_row f))) table
any_shown p rows [] = refl
any_shown p rows (f ∷ table) = ap (λ b. p (schema_field rows (field_row f)) || b) (any_shown p rows table)

all_known : (d : PooledType) (table : List FieldTable) (oneof : Option ℕ) (k : ℕ) → map field_row table ≡ fields_of d
    → list_any (λ f. nat_eq f.number k && same_oneof f.oneof oneof) table ≡ list_any (λ g. nat_eq g.number k && same_oneof g.oneof oneof) (known_of d)
all_known d table oneof k rows =
    sym (any_shown (λ g. nat_eq g.number k && same_oneof g.oneof oneof) (pool_rows d.pool) table)
    ∙ ap (list_any (λ g. nat_eq g.number k && same_oneof g.oneof oneof)) (sym (known_rows (pool_rows d.pool) d.index ∙ ap (map (schema_field (pool_rows d.pool))) (sym rows)))

-- a oneof has the same members among the rows at its places and the fields
pub members_known : (d : PooledType) (table : List FieldTable) (places : List ℕ) (oneof : Option ℕ) (k : ℕ) → map field_row table ≡ fields_of d → HasMembers (fields_of d) oneof places
    → list_any (λ f. nat_eq f.number k && same_oneof f.oneof oneof) (rows_at table places) ≡ list_any (λ g. nat_eq g.number k && same_oneof g.oneof oneof) (known_of d)
members_known d table places oneof k rows has =
    listed_rows (λ f. nat_eq f.number k && same_oneof f.oneof oneof) table places
    (λ i f at is. has i (field_row f) (ap (λ (fs : List FieldRow). slice_get fs i) (sym rows) ∙ (slice_get-map field_row table i ∙ ap (option_map field_row) at)) (and_parts (nat_eq f.number k) (same_oneof f.oneof oneof) is).1)
    ∙ all_known d table oneof k rows

-- the siblings of a number are the members of its oneof among the rows
siblings_are_members : (d : PooledType) (table : List FieldTable) (n : ℕ) (o : Option Field) (oneof : Option ℕ) → map field_row table ≡ fields_of d → field_of (known_of d) n ≡ o
    → oneof ≡ option_and_then (λ f. f.oneof) o → (k : ℕ) → is_member table oneof n k ≡ are_siblings (known_of d) n k
siblings_are_members d table n None oneof rows at is k = ap (λ q. is_member table q n k) is ∙ ap (λ b. not (nat_eq k n) && b) (nothing table) ∙ none (not (nat_eq k n)) ∙ ap (λ o. passes o (λ f. is_sibling (known_of d) f k)) (sym at)
  where
    none : (b : Bool) → b && false ≡ false
    none true = refl
    none false = refl

    without : (q : Option ℕ) → same_oneof q None ≡ false
    without None = refl
    without (Some i) = refl

    nothing : (table : List FieldTable) → list_any (λ f. nat_eq f.number k && same_oneof f.oneof None) table ≡ false
    nothing [] = refl
    nothing (f ∷ table) = ap (λ b. (nat_eq f.number k && b) || list_any (λ f. nat_eq f.number k && same_oneof f.oneof None) table) (without f.oneof) ∙ ap (λ b. b || list_any (λ f. nat_eq f.number k && same_oneof f.oneof None) table) (none (nat_eq f.number k)) ∙ nothing table
siblings_are_members d table n (Some f) oneof rows at is k =
    let shown : known_of d ≡ map (schema_field (pool_rows d.pool)) (map field_row table) = known_rows (pool_rows d.pool) d.index ∙ ap (map (schema_field (pool_rows d.pool))) (sym rows) in
    let number : f.number ≡ n = field_number (known_of d) n f at in
    ap (λ q. is_member table q n k) is
    ∙ ap (λ b. not (nat_eq k n) && b) (sym (any_shown (λ g. nat_eq g.number k && same_oneof g.oneof f.oneof) (pool_rows d.pool) table) ∙ ap (list_any (λ g. nat_eq g.number k && same_oneof g.oneof f.oneof)) (sym shown))
    ∙ ap (λ z. not (nat_eq k z) && list_any (λ g. nat_eq g.number k && same_oneof g.oneof f.oneof) (known_of d)) (sym number)
    ∙ ap (λ o. passes o (λ f. is_sibling (known_of d) f k)) (sym at)

pub siblings_cleared : {V : Type 0} (d : PooledType) (table : List FieldTable) (places : List ℕ) (n : ℕ) (oneof : Option ℕ) (es : List (ℕ × FieldSlot V)) → map field_row table ≡ fields_of d → HasMembers (fields_of d) oneof places → oneof ≡ oneof_of (known_of d) n
    → without_values (is_member (rows_at table places) oneof n) es ≡ without_values (are_siblings (known_of d) n) es
siblings_cleared d table places n oneof es rows has is =
    without_same_test (is_member (rows_at table places) oneof n) (are_siblings (known_of d) n) es
    (λ k. ap (λ b. not (nat_eq k n) && b) (members_known d table places oneof k rows has ∙ sym (all_known d table oneof k rows)) ∙ siblings_are_members d table n (field_of (known_of d) n) oneof rows refl is k)
