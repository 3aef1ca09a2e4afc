-- A number is in one of some ranges exactly where it is in the last of their spans in order that starts at it or below.
use Rattle.std.specs.Prelude.{◌≡◌, ◌<◌, ◌≤◌, ◌&&◌, ◌||◌, ◌∷◌, ◌-◌}
use Rattle.prost_reflect_tables.proofs.Common.{ℕ, zero, suc, ℤ, pos, negsuc, Bool, true, false, cond, List, [], map, length, get_or, Option, Some, None, refl, sym, ap, ◌∙◌, arith, ⊎_elim, nat_le, nat_lt, int_le, int_lt, list_any, IsNonDecreasingBy, IsPartitionPoint, IsPermutation, get_or_default, list_any_at, cases_lt, is_in_range, number_or_zero, natural_or_zero}
use Rattle.std.proofs.lemmas.List.Sorted.{list_any-IsPermutation}
use Rattle.prost_reflect_types.specs.declared.ExtensionRange.{ExtensionRange}
use Rattle.prost_reflect_tables.specs.Spans.{is_in_span, span_of, greater, reaching, AreSpansOf}
use Rattle.prost_reflect_tables.proofs.Sorting.{Rising, rising_from}

-- ORDER

rises_at : {X : Type 0} (n : X → ℕ) (low : ℕ) (xs : List X) → Rising n low xs → (j : ℕ) (d : X) → j < length xs → low ≤ n (get_or xs j d)
rises_at n low [] h j d lt = absurd (omega (arith, lt))
rises_at n low (x ∷ xs) h zero d lt = h.0
rises_at n low (x ∷ xs) h (suc j) d lt = let rest = rises_at n (n x) xs h.1 j d (omega (arith, lt)) in omega (arith, h.0, rest)

-- Numbers that rise item by item rise over any distance.
ordered_from : {X : Type 0} (n : X → ℕ) (low : ℕ) (xs : List X) → Rising n low xs → IsNonDecreasingBy n xs
ordered_from n low [] h i j d le lt = absurd (omega (arith, lt))
ordered_from n low (x ∷ xs) h zero zero d le lt = omega arith
ordered_from n low (x ∷ xs) h zero (suc j) d le lt = rises_at n (n x) xs h.1 j d (omega (arith, lt))
ordered_from n low (x ∷ xs) h (suc i) zero d le lt = absurd (omega (arith, le))
ordered_from n low (x ∷ xs) h (suc i) (suc j) d le lt = ordered_from n (n x) xs h.1 i j d (omega (arith, le)) (omega (arith, lt))

starts_rise : (low farthest : ℕ) (spans : List (ℕ × ℕ)) → Rising (λ (s : ℕ × ℕ). s.0) low spans → Rising (λ (s : ℕ × ℕ). s.0) low (reaching farthest spans)
starts_rise low farthest [] h = tt
starts_rise low farthest (s ∷ spans) h = (h.0, starts_rise s.0 (greater farthest s.1) spans h.1)

greater_first : (a b : ℕ) → a ≤ greater a b
greater_first a b = go (nat_lt a b) refl
  where
    go : (t : Bool) → nat_lt a b ≡ t → a ≤ cond t b a
    go true e = grind (arith, e)
    go false e = omega arith

ends_rise : (farthest : ℕ) (spans : List (ℕ × ℕ)) → Rising (λ (s : ℕ × ℕ). s.1) farthest (reaching farthest spans)
ends_rise farthest [] = tt
ends_rise farthest (s ∷ spans) = (greater_first farthest s.1, ends_rise (greater farthest s.1) spans)

-- WHAT REACHING SPANS HAVE

abbrev starts_below : ℕ → ℕ × ℕ → Bool
starts_below n s = nat_le s.0 n

none_starts : (n low : ℕ) (spans : List (ℕ × ℕ)) → Rising (λ (s : ℕ × ℕ). s.0) low spans → n < low → list_any (starts_below n) spans ≡ false
none_starts n low [] h lt = refl
none_starts n low (s ∷ spans) h lt =
    let above : nat_le s.0 n ≡ false = grind (arith, h.0, lt) in
    rw (above, none_starts n s.0 spans h.1 (omega (arith, h.0, lt))) refl

none_above : (n low : ℕ) (spans : List (ℕ × ℕ)) → Rising (λ (s : ℕ × ℕ). s.0) low spans → n < low → list_any (is_in_span n) spans ≡ false
none_above n low [] h lt = refl
none_above n low (s ∷ spans) h lt =
    let above : nat_le s.0 n ≡ false = grind (arith, h.0, lt) in
    rw (above, none_above n s.0 spans h.1 (omega (arith, h.0, lt))) refl

below_greater : (n a b : ℕ) → nat_lt n (greater a b) ≡ (nat_lt n a || nat_lt n b)
below_greater n a b = go (nat_lt a b) refl
  where
    go : (t : Bool) → nat_lt a b ≡ t → nat_lt n (cond t b a) ≡ (nat_lt n a || nat_lt n b)
    go true e = grind (arith, e)
    go false e = grind (arith, e)

-- They have what the spans have, and from the first start on what lies before the farthest end so far.
reaching_any : (n low farthest : ℕ) (spans : List (ℕ × ℕ)) → Rising (λ (s : ℕ × ℕ). s.0) low spans →
    list_any (is_in_span n) (reaching farthest spans) ≡ ((nat_lt n farthest && list_any (starts_below n) spans) || list_any (is_in_span n) spans)
reaching_any n low farthest [] h = go (nat_lt n farthest)
  where
    go : (b : Bool) → false ≡ ((b && false) || false)
    go true = refl
    go false = refl
reaching_any n low farthest (s ∷ spans) h = go (nat_le s.0 n) refl (reaching_any n s.0 (greater farthest s.1) spans h.1)
  where
    far : ℕ
    far = greater farthest s.1

    either : (a e starts more : Bool) → ((a || e) || (((a || e) && starts) || more)) ≡ ((a && true) || (e || more))
    either true e starts more = refl
    either false true starts more = refl
    either false false starts more = refl

    neither : (a : Bool) → false ≡ ((a && false) || false)
    neither true = refl
    neither false = refl

    go : (b : Bool) → nat_le s.0 n ≡ b →
        list_any (is_in_span n) (reaching far spans) ≡ ((nat_lt n far && list_any (starts_below n) spans) || list_any (is_in_span n) spans) →
        ((b && nat_lt n far) || list_any (is_in_span n) (reaching far spans))
        ≡ ((nat_lt n farthest && (b || list_any (starts_below n) spans)) || ((b && nat_lt n s.1) || list_any (is_in_span n) spans))
    go true e more = rw (more, below_greater n farthest s.1) (either (nat_lt n farthest) (nat_lt n s.1) (list_any (starts_below n) spans) (list_any (is_in_span n) spans))
    go false e more =
        let above : n < s.0 = grind (arith, e) in
        rw (none_starts n s.0 spans h.1 above, none_above n s.0 spans h.1 above, none_above n s.0 (reaching far spans) (starts_rise s.0 far spans h.1) above) (neither (nat_lt n farthest))

-- RANGES

none_below_0 : (n : ℕ) → nat_lt n 0 ≡ false
none_below_0 n = grind arith

all_from_0 : (n : ℕ) → nat_le 0 n ≡ true
all_from_0 n = grind arith

span_has : (n : ℕ) (r : ExtensionRange) → is_in_span n (span_of r) ≡ is_in_range (pos n) r
span_has n r = go r.start r.end
  where
    go : (s e : Option ℤ) → (nat_le (natural_or_zero s) n && nat_lt n (natural_or_zero e)) ≡ (int_le (number_or_zero s) (pos n) && int_lt (pos n) (number_or_zero e))
    go None None = refl
    go None (Some (pos e)) = refl
    go None (Some (negsuc e)) = rw (none_below_0 n) refl
    go (Some (pos s)) None = refl
    go (Some (pos s)) (Some (pos e)) = refl
    go (Some (pos s)) (Some (negsuc e)) = rw (none_below_0 n) refl
    go (Some (negsuc s)) None = rw (all_from_0 n) refl
    go (Some (negsuc s)) (Some (pos e)) = rw (all_from_0 n) refl
    go (Some (negsuc s)) (Some (negsuc e)) = rw (all_from_0 n, none_below_0 n) refl

spans_have : (n : ℕ) (ranges : List ExtensionRange) → list_any (is_in_span n) (map span_of ranges) ≡ list_any (is_in_range (pos n)) ranges
spans_have n [] = refl
spans_have n (r ∷ ranges) = rw (span_has n r, spans_have n ranges) refl

-- What is made of the ranges' spans once they are sorted.
pub spans_in_order : (ranges : List ExtensionRange) (sorted : List (ℕ × ℕ)) → IsPermutation (map span_of ranges) sorted → IsNonDecreasingBy (λ (s : ℕ × ℕ). s.0) sorted → AreSpansOf (reaching 0 sorted) ranges
spans_in_order ranges sorted moved up = record {
  starts = ordered_from (λ (s : ℕ × ℕ). s.0) 0 (reaching 0 sorted) (starts_rise 0 0 sorted rise);
  ends = ordered_from (λ (s : ℕ × ℕ). s.1) 0 (reaching 0 sorted) (ends_rise 0 sorted);
  numbers = λ n. reaching_any n 0 0 sorted rise ∙ (rw (none_below_0 n) refl) ∙ sym (list_any-IsPermutation (is_in_span n) (map span_of ranges) sorted moved) ∙ spans_have n ranges;
}
  where
    rise : Rising (λ (s : ℕ × ℕ). s.0) 0 sorted
    rise = rising_from (λ (s : ℕ × ℕ). s.0) 0 sorted up (λ d some. omega arith)

-- SEARCHING

none_at : {X : Type 0} (p : X → Bool) (xs : List X) → ((i : ℕ) (d : X) → i < length xs → p (get_or xs i d) ≡ false) → list_any p xs ≡ false
none_at p [] h = refl
none_at p (x ∷ xs) h = rw (h 0 x (omega arith), none_at p xs (λ i d lt. h (suc i) d (omega (arith, lt)))) refl

starts_late : (n : ℕ) (s : ℕ × ℕ) → nat_le s.0 n ≡ false → is_in_span n s ≡ false
starts_late n s e = rw e refl

ends_early : (n : ℕ) (s : ℕ × ℕ) → nat_lt n s.1 ≡ false → is_in_span n s ≡ false
ends_early n s e = go (nat_le s.0 n)
  where
    go : (b : Bool) → (b && nat_lt n s.1) ≡ false
    go true = e
    go false = refl

abbrev pub Splits : ℕ → List (ℕ × ℕ) → ℕ → Type 0
Splits n spans k = IsPartitionPoint (λ (s : ℕ × ℕ). nat_le s.0 n ≡ true) (λ (s : ℕ × ℕ). nat_le s.0 n ≡ false) spans k

-- Where no span starts at the number or below, it is in none.
pub in_no_span : (n : ℕ) (spans : List (ℕ × ℕ)) → Splits n spans 0 → list_any (is_in_span n) spans ≡ false
in_no_span n spans point = none_at (is_in_span n) spans (λ i d lt. starts_late n (get_or spans i d) (point.1 i d (omega arith) lt))

-- Else it is in one if it is in the last of those that do.
pub in_last_span : (n k : ℕ) (spans : List (ℕ × ℕ)) (d : ℕ × ℕ) → 0 < k → k ≤ length spans → Splits n spans k → IsNonDecreasingBy (λ (s : ℕ × ℕ). s.1) spans → nat_lt n (get_or spans (k - 1) d).1 ≡ list_any (is_in_span n) spans
in_last_span n k spans d some le point up = go (nat_lt n (get_or spans (k - 1) d).1) refl
  where
    last : ℕ × ℕ
    last = get_or spans (k - 1) d

    before : nat_le last.0 n ≡ true
    before = point.0 (k - 1) d (omega arith) (omega (arith, some))

    go : (b : Bool) → nat_lt n last.1 ≡ b → b ≡ list_any (is_in_span n) spans
    go true e = sym (list_any_at (is_in_span n) spans (k - 1) d (omega (arith, some, le)) (rw (before, e) refl))
    go false e = sym (none_at (is_in_span n) spans (λ i f lt. ⊎_elim
        (λ (less : i < k). ends_early n (get_or spans i f) (grind (arith, e, up i (k - 1) f (omega (arith, less)) (omega (arith, some, le)), ap (λ (s : ℕ × ℕ). s.1) (get_or_default spans (k - 1) f d (omega (arith, some, le))))))
        (λ (more : k ≤ i). starts_late n (get_or spans i f) (point.1 i f more lt))
        (cases_lt i k)))
