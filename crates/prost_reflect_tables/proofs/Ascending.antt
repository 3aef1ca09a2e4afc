-- Fields in ascending order of their numbers, and the place of a number among them.
use Rattle.std.specs.Prelude.{◌≡◌, ◌≢◌, ◌+◌, ◌<◌, ◌≤◌, ◌^◌, ◌&&◌, ◌∷◌, ◌==◌}
use Rattle.prost_reflect_tables.proofs.Common.{⊎_elim, ℕ, zero, suc, add-zero, true, List, [], length, get_or, map, Some, None, refl, sym, ◌∙◌, ap, arith, slice_get, option_map, nat_lt, position_from, length-map, slice_get-map, slice_get-get_or, slice_get_within, cases_lt, ltb-true, eq-eqb, ne_eqb, and_parts, FieldRow, field_row, place_of, ascending_from, FieldTable}
use Rattle.std.proofs.lemmas.Iterator.Adapters.{position_from-zero}

pub rises : (low : ℕ) (g : FieldRow) (fields : List FieldRow) → ascending_from low (g ∷ fields) ≡ true → low < g.number
rises low g fields h = ltb-true low g.number (and_parts (nat_lt low g.number) (nat_lt g.number (2 ^ 29)) (and_parts (nat_lt low g.number && nat_lt g.number (2 ^ 29)) (ascending_from g.number fields) h).0).0

pub onward : (low : ℕ) (g : FieldRow) (fields : List FieldRow) → ascending_from low (g ∷ fields) ≡ true → ascending_from g.number fields ≡ true
onward low g fields h = (and_parts (nat_lt low g.number && nat_lt g.number (2 ^ 29)) (ascending_from g.number fields) h).1

pub numbers_above : (low : ℕ) (fields : List FieldRow) (i : ℕ) (f : FieldRow) → ascending_from low fields ≡ true → slice_get fields i ≡ Some f → low < f.number
numbers_above low [] i f h e = cc
numbers_above low (g ∷ fields) zero f h e =
    let same : g ≡ f = cc in
    let here = rises low g fields h in
    omega (arith, ap (λ (x : FieldRow). x.number) same)
numbers_above low (g ∷ fields) (suc i) f h e =
    let here = rises low g fields h in
    let further = numbers_above g.number fields i f (onward low g fields h) e in
    omega arith

pub numbers_rise : (low : ℕ) (fields : List FieldRow) (i j : ℕ) (f g : FieldRow) → ascending_from low fields ≡ true → slice_get fields i ≡ Some f → slice_get fields j ≡ Some g → i < j → f.number < g.number
numbers_rise low [] i j f g h e d lt = cc
numbers_rise low (x ∷ fields) zero (suc j) f g h e d lt =
    let same : x ≡ f = cc in
    let further = numbers_above x.number fields j g (onward low x fields h) d in
    omega (arith, ap (λ (y : FieldRow). y.number) same)
numbers_rise low (x ∷ fields) (suc i) (suc j) f g h e d lt = numbers_rise x.number fields i j f g (onward low x fields h) e d (omega arith)
numbers_rise low (x ∷ fields) _ zero f g h e d lt = absurd (omega arith)

place_from : (n : ℕ) (fields : List FieldRow) → place_of fields n ≡ position_from (λ (r : FieldRow). r.number == n) 0 fields
place_from n fields = position_from-zero (λ (r : FieldRow). r.number == n) fields

found_from : (n k low : ℕ) (fields : List FieldRow) (i : ℕ) (f : FieldRow) → ascending_from low fields ≡ true → slice_get fields i ≡ Some f → f.number ≡ n → position_from (λ (r : FieldRow). r.number == n) k fields ≡ Some (k + i)
found_from n k low [] i f h e is = cc
found_from n k low (g ∷ fields) zero f h e is =
    let same : g ≡ f = cc in
    let here : g.number ≡ n = ap (λ (x : FieldRow). x.number) same ∙ is in
    rw (eq-eqb g.number n here) (rw add-zero refl)
found_from n k low (g ∷ fields) (suc i) f h e is =
    let above = numbers_above g.number fields i f (onward low g fields h) e in
    let differ : g.number ≢ n = λ same. absurd (omega arith) in
    rw (ne_eqb g.number n differ) (found_from n (k + 1) g.number fields i f (onward low g fields h) e is ∙ ap Some (omega arith))

pub place_found : (n : ℕ) (fields : List FieldRow) (i : ℕ) (f : FieldRow) → ascending_from 0 fields ≡ true → slice_get fields i ≡ Some f → f.number ≡ n → place_of fields n ≡ Some i
place_found n fields i f h e is = place_from n fields ∙ (found_from n 0 0 fields i f h e is ∙ ap Some (omega arith))

missing_from : (n k : ℕ) (fields : List FieldRow) → ((i : ℕ) (f : FieldRow) → slice_get fields i ≡ Some f → f.number ≢ n) → position_from (λ (r : FieldRow). r.number == n) k fields ≡ None
missing_from n k [] h = refl
missing_from n k (g ∷ fields) h = rw (ne_eqb g.number n (h 0 g refl)) (missing_from n (k + 1) fields (λ i f. h (suc i) f))

pub place_missing : (n : ℕ) (fields : List FieldRow) → ((i : ℕ) (f : FieldRow) → slice_get fields i ≡ Some f → f.number ≢ n) → place_of fields n ≡ None
place_missing n fields h = place_from n fields ∙ missing_from n 0 fields h

-- BINARY SEARCH

pub read_row : (fields : List FieldTable) (i : ℕ) (d : FieldTable) → i < length fields → slice_get (map field_row fields) i ≡ Some (field_row (get_or fields i d))
read_row fields i d within = slice_get-map field_row fields i ∙ ap (option_map field_row) (slice_get-get_or fields i d within)

in_order : (fields : List FieldRow) (i j : ℕ) (f g : FieldRow) → ascending_from 0 fields ≡ true → slice_get fields i ≡ Some f → slice_get fields j ≡ Some g → i ≤ j → f.number ≤ g.number
in_order fields i j f g h e d le =
    ⊎_elim (λ less. let rise = numbers_rise 0 fields i j f g h e d less in omega arith)
    (λ back. let one : f ≡ g = some_same f g (sym e ∙ (ap (slice_get fields) (omega arith) ∙ d)) in omega (arith, ap (λ (x : FieldRow). x.number) one))
    (cases_lt i j)
  where
    some_same : (x y : FieldRow) → Some x ≡ Some y → x ≡ y
    some_same x y e = cc

-- The number's field, if there is one, stands from `low` on and below `high`.
pub record Between (fields : List FieldTable) (number low high : ℕ) : Type 0 where
  pub ordered : low ≤ high
  pub in_range : high ≤ length fields
  pub before : (k : ℕ) (f : FieldRow) → slice_get (map field_row fields) k ≡ Some f → k < low → f.number < number
  pub behind : (k : ℕ) (f : FieldRow) → slice_get (map field_row fields) k ≡ Some f → high ≤ k → number < f.number

pub at_start : (fields : List FieldTable) (n : ℕ) → Between fields n 0 (length fields)
at_start fields n = record {
  ordered = omega arith;
  in_range = omega arith;
  before = λ k f at under. absurd (omega arith);
  behind = λ k f at over. let within : k < length fields = rw length-map at (slice_get_within (map field_row fields) k f at) in absurd (omega arith);
}

pub upper_half : (fields : List FieldTable) (n low high m : ℕ) (f : FieldRow) → ascending_from 0 (map field_row fields) ≡ true → Between fields n low high → slice_get (map field_row fields) m ≡ Some f → m < high → f.number < n → Between fields n (m + 1) high
upper_half fields n low high m f h between at below less = record {
  ordered = omega arith;
  in_range = between.in_range;
  before = λ k g there under. let order = in_order (map field_row fields) k m g f h there at (omega arith) in omega arith;
  behind = between.behind;
}

pub lower_half : (fields : List FieldTable) (n low high m : ℕ) (f : FieldRow) → ascending_from 0 (map field_row fields) ≡ true → Between fields n low high → slice_get (map field_row fields) m ≡ Some f → low ≤ m → m < high → n < f.number → Between fields n low m
lower_half fields n low high m f h between at above below more = record {
  ordered = above;
  in_range = omega (arith, between.in_range);
  before = between.before;
  behind = λ k g there over. let order = in_order (map field_row fields) m k f g h at there over in omega arith;
}

pub nothing_between : (fields : List FieldTable) (n low high : ℕ) → Between fields n low high → high ≤ low → place_of (map field_row fields) n ≡ None
nothing_between fields n low high between met = place_missing n (map field_row fields) (λ k f at same. ⊎_elim (λ under. let less = between.before k f at under in omega arith) (λ over. let more = between.behind k f at (omega arith) in omega arith) (cases_lt k low))
