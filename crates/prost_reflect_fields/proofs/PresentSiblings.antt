-- Siblings that are found among the items.
use Rattle.std.specs.Prelude.{◌≡◌, ◌+◌, ◌<◌, ◌≤◌, ◌&&◌, ◌||◌, ◌∷◌}
use Rattle.prost_reflect_fields.proofs.Common.{ℕ, arith, Bool, true, false, cond, not, nat_eq, List, [], Option, Some, None, refl, ap, sym, ◌∙◌, true≢false, eq-eqb, eqb-true, and_parts, same_Some, list_any, option_and_then, is_some, Field, field_of, is_sibling, same_oneof, passes, numbers_differ, field_number, PooledType, FieldSlot, Value, Unknown, Both, IsAscending, value_in, left_in, then_slot, without_values, clear_value, first_value, known_of, oneof_of, are_siblings, is_other_member}
use Rattle.prost_reflect_fields.proofs.SlotChanges.{without_both, without_same_test}
use Rattle.prost_reflect_fields.proofs.Siblings.{known_differ, found_passes, passes_found}

-- SIBLINGS BY THEIR OWN ONEOFS

same_answer : (a b : Bool) → (a ≡ true → b ≡ true) → (b ≡ true → a ≡ true) → a ≡ b
same_answer true true f g = refl
same_answer true false f g = sym (f refl)
same_answer false true f g = g refl
same_answer false false f g = refl

-- where numbers differ, a member is what the field of its number says
member_is : (fields : List Field) (oneof : Option ℕ) (k : ℕ) → numbers_differ fields ≡ true → list_any (λ g. nat_eq g.number k && same_oneof g.oneof oneof) fields ≡ same_oneof (oneof_of fields k) oneof
member_is fields oneof k differ =
    same_answer (list_any (λ g. nat_eq g.number k && same_oneof g.oneof oneof) fields) (passes (field_of fields k) (λ g. same_oneof g.oneof oneof)) (found_passes k (λ g. same_oneof g.oneof oneof) fields differ) (λ h. back (field_of fields k) refl h)
    ∙ told (field_of fields k)
  where
    back : (o : Option Field) → field_of fields k ≡ o → passes o (λ g. same_oneof g.oneof oneof) ≡ true → list_any (λ g. nat_eq g.number k && same_oneof g.oneof oneof) fields ≡ true
    back None at h = absurd (true≢false (sym h))
    back (Some g) at h = passes_found k (λ g. same_oneof g.oneof oneof) fields g at h

    told : (o : Option Field) → passes o (λ g. same_oneof g.oneof oneof) ≡ same_oneof (option_and_then (λ f. f.oneof) o) oneof
    told None = refl
    told (Some g) = refl

in_none : (o : Option ℕ) → same_oneof o None ≡ false
in_none None = refl
in_none (Some i) = refl

and_false : (a : Bool) → a && false ≡ false
and_false true = refl
and_false false = refl

pub others_are_siblings : (fields : List Field) (n k : ℕ) → numbers_differ fields ≡ true → is_other_member fields (oneof_of fields n) n k ≡ are_siblings fields n k
others_are_siblings fields n k differ = cases (field_of fields n) refl
  where
    cases : (o : Option Field) → field_of fields n ≡ o → (not (nat_eq k n) && same_oneof (oneof_of fields k) (option_and_then (λ f. f.oneof) o)) ≡ passes o (λ f. is_sibling fields f k)
    cases None at = ap (λ b. not (nat_eq k n) && b) (in_none (oneof_of fields k)) ∙ and_false (not (nat_eq k n))
    cases (Some f) at = ap (λ b. not (nat_eq k n) && b) (sym (member_is fields f.oneof k differ)) ∙ ap (λ z. not (nat_eq k z) && list_any (λ g. nat_eq g.number k && same_oneof g.oneof f.oneof) fields) (sym (field_number fields n f at))

-- the other members of a number's oneof are its siblings
pub others_cleared : {V : Type 0} (d : PooledType) (n : ℕ) (oneof : Option ℕ) (es : List (ℕ × FieldSlot V)) → oneof ≡ oneof_of (known_of d) n → without_values (is_other_member (known_of d) oneof n) es ≡ without_values (are_siblings (known_of d) n) es
others_cleared d n oneof es is = ap (λ o. without_values (is_other_member (known_of d) o n) es) is ∙ without_same_test (is_other_member (known_of d) (oneof_of (known_of d) n) n) (are_siblings (known_of d) n) es (λ k. others_are_siblings (known_of d) n k (known_differ d))

-- ONE VALUE AFTER ANOTHER

abbrev pub one_if : Bool → ℕ
one_if true = 1
one_if false = 0

module _ {V : Type 0} where
  -- how many of the numbers that pass have a value
  abbrev pub value_count : (ℕ → Bool) → List (ℕ × FieldSlot V) → ℕ
  value_count test [] = 0
  value_count test (e ∷ es) = one_if (is_some (value_in e.1) && test e.0) + value_count test es

  found_passes_test : (test : ℕ → Bool) (es : List (ℕ × FieldSlot V)) (k : ℕ) → first_value test es ≡ Some k → test k ≡ true
  found_passes_test test [] k h = absurd cc
  found_passes_test test (e ∷ es) k h = cases (is_some (value_in e.1) && test e.0) refl h (found_passes_test test es k)
    where
      cases : (b : Bool) → (is_some (value_in e.1) && test e.0) ≡ b → cond b (Some e.0) (first_value test es) ≡ Some k → (first_value test es ≡ Some k → test k ≡ true) → test k ≡ true
      cases true is h rest = ap test (sym (same_Some e.0 k h)) ∙ (and_parts (is_some (value_in e.1)) (test e.0) is).1
      cases false is h rest = rest h

  -- with one of the values gone, the same is left of clearing all
  pub one_taken : (test : ℕ → Bool) (es : List (ℕ × FieldSlot V)) (k : ℕ) → IsAscending es → first_value test es ≡ Some k → without_values test (clear_value es k) ≡ without_values test es
  one_taken test es k s h = without_both test (nat_eq k) test es s (λ j. cases j (nat_eq k j) refl)
    where
      cases : (j : ℕ) (b : Bool) → nat_eq k j ≡ b → test j ≡ (b || test j)
      cases j true e = ap test (sym (eqb-true k j e)) ∙ found_passes_test test es k h
      cases j false e = refl

  -- where none is found, there is none to clear
  pub none_left : (test : ℕ → Bool) (es : List (ℕ × FieldSlot V)) → first_value test es ≡ None → without_values test es ≡ es
  none_left test [] h = refl
  none_left test (e ∷ es) h = cases e.1 (test e.0) h (none_left test es)
    where
      cases : (slot : FieldSlot V) (b : Bool) → cond (is_some (value_in slot) && b) (Some e.0) (first_value test es) ≡ None → (first_value test es ≡ None → without_values test es ≡ es)
          → then_slot e.0 (cond b (left_in slot) (Some slot)) (without_values test es) ≡ (e.0, slot) ∷ es
      cases (Value v) true h rest = absurd cc
      cases (Value v) false h rest = ap (λ ds. (e.0, Value v) ∷ ds) (rest h)
      cases (Unknown u) true h rest = ap (λ ds. (e.0, Unknown u) ∷ ds) (rest h)
      cases (Unknown u) false h rest = ap (λ ds. (e.0, Unknown u) ∷ ds) (rest h)
      cases (Both v u) true h rest = absurd cc
      cases (Both v u) false h rest = ap (λ ds. (e.0, Both v u) ∷ ds) (rest h)

  slot_count : (test : ℕ → Bool) (k n : ℕ) (slot : FieldSlot V) (rest : List (ℕ × FieldSlot V)) → value_count test (then_slot n (cond (nat_eq k n) (left_in slot) (Some slot)) rest) ≤ one_if (is_some (value_in slot) && test n) + value_count test rest
  slot_count test k n slot rest = cases (nat_eq k n) slot
    where
      cases : (b : Bool) (slot : FieldSlot V) → value_count test (then_slot n (cond b (left_in slot) (Some slot)) rest) ≤ one_if (is_some (value_in slot) && test n) + value_count test rest
      cases true (Value v) = omega arith
      cases true (Unknown u) = omega arith
      cases true (Both v u) = omega arith
      cases false slot = omega arith

  no_more : (test : ℕ → Bool) (es : List (ℕ × FieldSlot V)) (k : ℕ) → value_count test (clear_value es k) ≤ value_count test es
  no_more test [] k = omega arith
  no_more test (e ∷ es) k = let rest = no_more test es k in let here = slot_count test k e.0 e.1 (clear_value es k) in omega (arith, rest, here)

  -- a value that is taken is one less
  pub one_less : (test : ℕ → Bool) (es : List (ℕ × FieldSlot V)) (k : ℕ) → first_value test es ≡ Some k → value_count test (clear_value es k) < value_count test es
  one_less test [] k h = absurd cc
  one_less test (e ∷ es) k h = cases (is_some (value_in e.1) && test e.0) refl h (one_less test es k)
    where
      gone : (slot : FieldSlot V) → is_some (value_in slot) ≡ true → value_count test (then_slot e.0 (left_in slot) (clear_value es k)) ≡ value_count test (clear_value es k)
      gone (Value v) h = refl
      gone (Unknown u) h = absurd (true≢false (sym h))
      gone (Both v u) h = omega arith

      cases : (b : Bool) → (is_some (value_in e.1) && test e.0) ≡ b → cond b (Some e.0) (first_value test es) ≡ Some k → (first_value test es ≡ Some k → value_count test (clear_value es k) < value_count test es)
          → value_count test (then_slot e.0 (cond (nat_eq k e.0) (left_in e.1) (Some e.1)) (clear_value es k)) < one_if b + value_count test es
      cases true is h rest =
          let at : nat_eq k e.0 ≡ true = eq-eqb k e.0 (sym (same_Some e.0 k h)) in
          let taken : value_count test (then_slot e.0 (cond (nat_eq k e.0) (left_in e.1) (Some e.1)) (clear_value es k)) ≡ value_count test (clear_value es k) =
          ap (λ b. value_count test (then_slot e.0 (cond b (left_in e.1) (Some e.1)) (clear_value es k))) at ∙ gone e.1 (and_parts (is_some (value_in e.1)) (test e.0) is).0 in
          omega (arith, taken, no_more test es k)
      cases false is h rest =
          let here = slot_count test k e.0 e.1 (clear_value es k) in
          let none = ap one_if is in
          omega (arith, here, none, rest h)
