-- Numbers of fields: they differ, are in range, and ascend.
use Rattle.std.specs.Prelude.{◌≡◌, ◌≢◌, ◌+◌, ◌<◌, ◌≤◌, ◌^◌, ◌&&◌, ◌∷◌, ◌++◌}
use Rattle.prost_reflect_tables.proofs.Common.{ℕ, Bool, true, false, cond, List, [], length, filter, refl, sym, ap, ◌∙◌, subst, arith, append_assoc, length-append, nat_lt, nat_eq, list_any, list_all, or_parts, and_from, and_parts, eq-eqb, ne_eqb, ltb-true, lt-ltb, Decides-int_eq, FieldRow, ascending_from, in_order, Numbered, same_numbered, number_repeats}
use Rattle.prost_reflect_wire.proofs.Survivors.{filter_append}
use Rattle.prost_reflect_tables.proofs.Sorting.{Rising, with_number, order_rises, order_there}

abbrev pub number_of : FieldRow → ℕ
number_of f = f.number

-- A field number that is from 1 to 2^29 - 1.
abbrev pub in_number_range : FieldRow → Bool
in_number_range f = nat_lt 0 f.number && nat_lt f.number (2 ^ 29)

-- Of no number are there two.
abbrev pub AtMostOne : List FieldRow → Type 0
AtMostOne fields = (k : ℕ) → length (with_number number_of k fields) ≤ 1

at_most_one_behind : (f : FieldRow) (fields : List FieldRow) → AtMostOne (f ∷ fields) → AtMostOne fields
at_most_one_behind f fields h k = go (nat_eq f.number k) (h k)
  where
    go : (b : Bool) → length (cond b (f ∷ with_number number_of k fields) (with_number number_of k fields)) ≤ 1 → length (with_number number_of k fields) ≤ 1
    go true le = omega arith
    go false le = le

none_like_first : (f : FieldRow) (fields : List FieldRow) → AtMostOne (f ∷ fields) → length (with_number number_of f.number fields) ≡ 0
none_like_first f fields h =
    let one : length (with_number number_of f.number (f ∷ fields)) ≤ 1 = h f.number in
    let first : with_number number_of f.number (f ∷ fields) ≡ f ∷ with_number number_of f.number fields = rw (eq-eqb f.number f.number refl) refl in
    omega (arith, ap length first)

ascend : (low : ℕ) (fields : List FieldRow) → Rising number_of low fields → AtMostOne fields → length (with_number number_of low fields) ≡ 0 → list_all in_number_range fields ≡ true → ascending_from low fields ≡ true
ascend low [] up one none range = refl
ascend low (f ∷ fields) up one none range =
    let parts = and_parts (in_number_range f) (list_all in_number_range fields) range in
    let bounds = and_parts (nat_lt 0 f.number) (nat_lt f.number (2 ^ 29)) parts.0 in
    let other : f.number ≢ low = λ same. differs same in
    let above : low < f.number = omega (arith, up.0, other) in
    and_from (nat_lt low f.number && nat_lt f.number (2 ^ 29)) (ascending_from f.number fields)
    (and_from (nat_lt low f.number) (nat_lt f.number (2 ^ 29)) (lt-ltb low f.number above) bounds.1)
    (ascend f.number fields up.1 (at_most_one_behind f fields one) (none_like_first f fields one) parts.1)
  where
    differs : f.number ≡ low → ⊥
    differs same =
        let first : with_number number_of low (f ∷ fields) ≡ f ∷ with_number number_of low fields = rw (eq-eqb f.number low same) refl in
        omega (arith, ap length first, none)

none_zero : (fields : List FieldRow) → list_all in_number_range fields ≡ true → length (with_number number_of 0 fields) ≡ 0
none_zero [] range = refl
none_zero (f ∷ fields) range =
    let parts = and_parts (in_number_range f) (list_all in_number_range fields) range in
    let some : 0 < f.number = ltb-true 0 f.number (and_parts (nat_lt 0 f.number) (nat_lt f.number (2 ^ 29)) parts.0).0 in
    rw (ne_eqb f.number 0 (λ none. omega arith)) (none_zero fields parts.1)

-- Sorted, different numbers ascend.
pub order_ascends : (fields : List FieldRow) → AtMostOne fields → list_all in_number_range (in_order fields) ≡ true → ascending_from 0 (in_order fields) ≡ true
order_ascends fields one range =
    ascend 0 (in_order fields) (order_rises fields) (λ k. subst (λ (l : List FieldRow). length l ≤ 1) (sym (order_there k fields)) (one k)) (none_zero (in_order fields) range) range

-- NUMBERED BY MESSAGE

-- How many are the same as one.
abbrev pub count_same : Numbered → List Numbered → ℕ
count_same n ns = length (filter (same_numbered n) ns)

pub count_append : (n : Numbered) (xs ys : List Numbered) → count_same n (xs ++ ys) ≡ count_same n xs + count_same n ys
count_append n xs ys = ap length (filter_append (same_numbered n) xs ys) ∙ length-append (filter (same_numbered n) xs) (filter (same_numbered n) ys)

none_counted : (n m : Numbered) (ns : List Numbered) → same_numbered n m ≡ true → list_any (same_numbered m) ns ≡ false → count_same n ns ≡ 0
none_counted n m [] h none = refl
none_counted n m (x ∷ ns) h none =
    let parts = or_parts (same_numbered m x) (list_any (same_numbered m) ns) none in
    rw (other parts.0) (none_counted n m ns h parts.1)
  where
    other : same_numbered m x ≡ false → same_numbered n x ≡ false
    other e = grind (arith, Decides-int_eq n.number m.number, Decides-int_eq m.number x.number, Decides-int_eq n.number x.number)

one_more_counted : (n m : Numbered) (before : List Numbered) → count_same n before ≤ 1 → list_any (same_numbered m) before ≡ false → count_same n (before ++ m ∷ []) ≤ 1
one_more_counted n m before le none = go (same_numbered n m) refl (count_append n before (m ∷ []))
  where
    go : (b : Bool) → same_numbered n m ≡ b → count_same n (before ++ m ∷ []) ≡ count_same n before + length (cond b (m ∷ []) []) → count_same n (before ++ m ∷ []) ≤ 1
    go true is e = omega (arith, none_counted n m before is none)
    go false is e = omega arith

counted_from : (n : Numbered) (before ns : List Numbered) → count_same n before ≤ 1 → number_repeats before ns ≡ false → count_same n (before ++ ns) ≤ 1
counted_from n before [] le h = omega (arith, count_append n before [])
counted_from n before (m ∷ ns) le h =
    let parts = or_parts (list_any (same_numbered m) before) (number_repeats (before ++ m ∷ []) ns) h in
    let rest = counted_from n (before ++ m ∷ []) ns (one_more_counted n m before le parts.0) parts.1 in
    subst (λ (l : List Numbered). count_same n l ≤ 1) (append_assoc before (m ∷ []) ns) rest

-- Where none repeats, of none are there two.
pub counted_once : (n : Numbered) (ns : List Numbered) → number_repeats [] ns ≡ false → count_same n ns ≤ 1
counted_once n ns h = counted_from n [] ns (omega arith) h
