-- What a change of slots keeps of the notes beside them.
use Rattle.std.specs.Prelude.{◌≡◌, ◌&&◌, ◌||◌}
use Rattle.prost_reflect_fields.proofs.Common.{ℕ, Bool, true, false, cond, not, nat_eq, List, Option, Some, None, refl, ap, sym, ◌∙◌, subst, true≢false, eq-eqb, ne_eqb, eqb-true, eqb-false, false_from_ne_true, IfSome, unwrap_or, option_map, is_some, Field, same_oneof, numbers_differ, FieldSlot, IsAscending, item_at, put_item, stored_at, has_value, put_value, with_value, clear_value, without_values, oneof_of, are_siblings, OnlyMember, is_noted, is_member_of, NotesOwn, AreNoted, without_noted, set_value_at}
use Rattle.prost_reflect_maps.proofs.ItemChanges.{apart_of, put_same, put_apart}
use Rattle.prost_reflect_fields.proofs.SlotChanges.{ascending_put, value_put_apart, without_none}
use Rattle.prost_reflect_fields.proofs.Siblings.{siblings_self}
use Rattle.prost_reflect_fields.proofs.PresentSiblings.{others_are_siblings}
use Rattle.prost_reflect_fields.proofs.OneofPlaces.{is_same}
use Rattle.prost_reflect_fields.proofs.OnlyMembers.{sibling_of, oneof_shared, none_cleared, other_cleared, none_other, only_put}
use Rattle.prost_reflect_fields.proofs.SoundChanges.{value_set_at, fewer_without, fewer_written}

-- NOTES

noted_at : (notes : List (ℕ × ℕ)) (o m k : ℕ) → item_at notes o ≡ Some k → is_noted notes o m ≡ nat_eq m k
noted_at notes o m k at = ap (λ q. unwrap_or (option_map (nat_eq m) q) false) at

none_noted : (notes : List (ℕ × ℕ)) (o m : ℕ) → item_at notes o ≡ None → is_noted notes o m ≡ false
none_noted notes o m at = ap (λ q. unwrap_or (option_map (nat_eq m) q) false) at

-- what is noted under a key, and under the others
pub noted_put : (notes : List (ℕ × ℕ)) (o n m : ℕ) → is_noted (put_item notes o n) o m ≡ nat_eq m n
noted_put notes o n m = noted_at (put_item notes o n) o m n (put_same notes o n)

pub noted_put_apart : (notes : List (ℕ × ℕ)) (o n p m : ℕ) → nat_eq p o ≡ false → is_noted (put_item notes o n) p m ≡ is_noted notes p m
noted_put_apart notes o n p m apart = ap (λ q. unwrap_or (option_map (nat_eq m) q) false) (put_apart notes o p n (apart_of p o (λ e. eqb-false p o apart (sym e))))

-- a note of a member is one of its oneof's members
pub own_put : (fields : List Field) (notes : List (ℕ × ℕ)) (o n : ℕ) → oneof_of fields n ≡ Some o → NotesOwn fields notes → NotesOwn fields (put_item notes o n)
own_put fields notes o n is own p m h = cases (nat_eq p o) refl
  where
    cases : (b : Bool) → nat_eq p o ≡ b → is_member_of fields p m ≡ true
    cases true at =
        let same : m ≡ n = eqb-true m n (sym (noted_put notes o n m) ∙ ap (λ z. is_noted (put_item notes o n) z m) (sym (eqb-true p o at)) ∙ h) in
        ap (λ z. same_oneof (oneof_of fields z) (Some p)) same ∙ ap (λ q. same_oneof q (Some p)) is ∙ eq-eqb o p (sym (eqb-true p o at))
    cases false at = own p m (sym (noted_put_apart notes o n p m at) ∙ h)

-- a number of no oneof has no siblings
no_sibling : (fields : List Field) (n : ℕ) → numbers_differ fields ≡ true → None ≡ oneof_of fields n → (k : ℕ) → are_siblings fields n k ≡ false
no_sibling fields n differ is k = sym (others_are_siblings fields n k differ) ∙ ap (λ o. not (nat_eq k n) && same_oneof (oneof_of fields k) o) (sym is) ∙ cases (not (nat_eq k n)) (oneof_of fields k)
  where
    cases : (b : Bool) (o : Option ℕ) → b && same_oneof o None ≡ false
    cases true None = refl
    cases true (Some i) = refl
    cases false None = refl
    cases false (Some i) = refl

module _ {V : Type 0} where
  -- VALUES AT NO MORE NUMBERS

  pub noted_less : (fields : List Field) (notes : Option (List (ℕ × ℕ))) (ds es : List (ℕ × FieldSlot V)) → ((k : ℕ) → has_value ds k ≡ true → has_value es k ≡ true) → AreNoted fields notes es → AreNoted fields notes ds
  noted_less fields None ds es less s = tt
  noted_less fields (Some notes) ds es less s = (s.0, λ o m v w. s.1 o m (less m v) w)

  pub noted_without : (fields : List Field) (notes : Option (List (ℕ × ℕ))) (test : ℕ → Bool) (es : List (ℕ × FieldSlot V)) → IsAscending es → AreNoted fields notes es → AreNoted fields notes (without_values test es)
  noted_without fields notes test es s = noted_less fields notes (without_values test es) es (fewer_without test es s).values

  pub noted_written : (fields : List Field) (notes : Option (List (ℕ × ℕ))) (es : List (ℕ × FieldSlot V)) (n : ℕ) (w : V) → AreNoted fields notes es → AreNoted fields notes (with_value es n w)
  noted_written fields notes es n w = noted_less fields notes (with_value es n w) es (fewer_written es n w).values

  pub noted_stored : (fields : List Field) (notes : Option (List (ℕ × ℕ))) (ds es : List (ℕ × FieldSlot V)) → ((k : ℕ) → stored_at ds k ≡ stored_at es k) → AreNoted fields notes es → AreNoted fields notes ds
  noted_stored fields notes ds es same = noted_less fields notes ds es (λ k h. ap is_some (sym (same k)) ∙ h)

  pub noted_after : (fields : List Field) {notes kept : Option (List (ℕ × ℕ))} {es ds : List (ℕ × FieldSlot V)} → ds ≡ es → kept ≡ notes → AreNoted fields notes es → AreNoted fields kept ds
  noted_after fields {notes = notes} {ds = ds} same kept s = subst (λ ns. AreNoted fields ns ds) (sym kept) (subst (AreNoted fields notes) (sym same) s)

  -- notes that a map may keep
  pub noted_kept : (fields : List Field) (noted : Option (List (ℕ × ℕ))) (notes : List (ℕ × ℕ)) (es : List (ℕ × FieldSlot V)) → IfSome noted (λ kept. kept ≡ notes) → AreNoted fields (Some notes) es → AreNoted fields noted es
  noted_kept fields None notes es kept s = tt
  noted_kept fields (Some ns) notes es kept s = subst (λ ls. AreNoted fields (Some ls) es) (sym kept) s

  -- A NUMBER OF NO ONEOF

  pub set_alone : (fields : List Field) (es : List (ℕ × FieldSlot V)) (n : ℕ) (v : V) → numbers_differ fields ≡ true → None ≡ oneof_of fields n → put_value es n v ≡ set_value_at fields es n v
  set_alone fields es n v differ is = sym (without_none (are_siblings fields n) (put_value es n v) (no_sibling fields n differ is))

  pub noted_alone : (fields : List Field) (notes : Option (List (ℕ × ℕ))) (es : List (ℕ × FieldSlot V)) (n : ℕ) (v : V) → None ≡ oneof_of fields n → AreNoted fields notes es → AreNoted fields notes (put_value es n v)
  noted_alone fields None es n v is s = tt
  noted_alone fields (Some notes) es n v is s = (s.0, λ o m there member. cases o m there member (nat_eq m n) refl)
    where
      cases : (o m : ℕ) → has_value (put_value es n v) m ≡ true → is_member_of fields o m ≡ true → (b : Bool) → nat_eq m n ≡ b → is_noted notes o m ≡ true
      cases o m there member true at = absurd (true≢false (sym member ∙ ap (λ z. same_oneof (oneof_of fields z) (Some o)) (eqb-true m n at) ∙ ap (λ q. same_oneof q (Some o)) (sym is)))
      cases o m there member false at = s.1 o m (ap is_some (sym (value_put_apart es n m v (apart_of n m (eqb-false m n at)))) ∙ there) member

  -- A MEMBER

  module _ (fields : List Field) (notes : List (ℕ × ℕ)) (es : List (ℕ × FieldSlot V)) (o n : ℕ) (v : V) (s : IsAscending es) (differ : numbers_differ fields ≡ true) (is : Some o ≡ oneof_of fields n) (noted : AreNoted fields (Some notes) es) where
    member_of : (k : ℕ) → are_siblings fields n k ≡ true → is_member_of fields o k ≡ true
    member_of k h = ap (λ q. same_oneof (oneof_of fields k) q) is ∙ oneof_shared fields n k differ h

    only_noted : (k : ℕ) → item_at notes o ≡ Some k → OnlyMember fields es n k
    only_noted k at = record {
      member = cases (nat_eq k n) refl;
      others = λ j sibling apart. false_from_ne_true (has_value es j)
          (λ there. true≢false (sym (sym (noted_at notes o j k at) ∙ noted.1 o j there (member_of j sibling)) ∙ ne_eqb j k (λ e. eqb-false k j apart (sym e))));
    }
      where
        own : is_member_of fields o k ≡ true
        own = noted.0 o k (noted_at notes o k k at ∙ eq-eqb k k refl)

        cases : (b : Bool) → nat_eq k n ≡ b → nat_eq k n || are_siblings fields n k ≡ true
        cases true same = ap (λ b. b || are_siblings fields n k) same
        cases false apart = ap (λ b. b || are_siblings fields n k) apart ∙ sibling_of fields n k differ apart (ap (λ q. same_oneof (oneof_of fields k) q) (sym is) ∙ own)

    none_there : item_at notes o ≡ None → (k : ℕ) → are_siblings fields n k ≡ true → has_value (put_value es n v) k ≡ false
    none_there at k sibling = ap is_some (value_put_apart es n k v (apart_of n k (λ e. absurd (true≢false (sym (subst (λ z. are_siblings fields n z ≡ true) e sibling) ∙ siblings_self fields n)))))
        ∙ false_from_ne_true (has_value es k) (λ there. true≢false (sym (noted.1 o k there (member_of k sibling)) ∙ none_noted notes o k at))

    pub set_noted : (member : Option ℕ) → member ≡ item_at notes o → without_noted (put_value es n v) n member ≡ set_value_at fields es n v
    set_noted None at = none_cleared (are_siblings fields n) (put_value es n v) (ascending_put es n v s) (none_there (sym at))
    set_noted (Some k) at = cases (nat_eq k n) refl
      where
        only : OnlyMember fields (put_value es n v) n k
        only = only_put fields es n k v (only_noted k (sym at))

        cases : (b : Bool) → nat_eq k n ≡ b → cond b (put_value es n v) (clear_value (put_value es n v) k) ≡ set_value_at fields es n v
        cases true same = none_other fields (put_value es n v) n k (ascending_put es n v s) only same
        cases false apart = other_cleared fields (put_value es n v) n k (ascending_put es n v s) only apart

    -- a value at another number was there before, at that of no sibling
    before : (m : ℕ) → nat_eq m n ≡ false → has_value (set_value_at fields es n v) m ≡ true → (are_siblings fields n m ≡ false) × (has_value es m ≡ true)
    before m apart there = go (are_siblings fields n m) (stored_at es m) (ap is_some (sym (value_set_at fields es n v m s ∙ ap (λ b. cond b (Some v) (cond (are_siblings fields n m) None (stored_at es m))) apart)) ∙ there)
      where
        go : (b : Bool) (q : Option V) → is_some (cond b None q) ≡ true → (b ≡ false) × (is_some q ≡ true)
        go true q h = absurd (true≢false (sym h))
        go false q h = (refl, h)

    pub noted_set : AreNoted fields (Some (put_item notes o n)) (set_value_at fields es n v)
    noted_set = (own_put fields notes o n (sym is) noted.0, λ p m there member. cases p m there member (nat_eq m n) (nat_eq p o) refl refl)
      where
        cases : (p m : ℕ) → has_value (set_value_at fields es n v) m ≡ true → is_member_of fields p m ≡ true → (a b : Bool) → nat_eq m n ≡ a → nat_eq p o ≡ b → is_noted (put_item notes o n) p m ≡ true
        cases p m there member true true at same = ap (λ z. is_noted (put_item notes o n) z m) (eqb-true p o same) ∙ noted_put notes o n m ∙ at
        cases p m there member true false at other =
            let one : Some p ≡ Some o = sym (is_same (oneof_of fields m) p member) ∙ ap (oneof_of fields) (eqb-true m n at) ∙ sym is in
            absurd (true≢false (sym (same_number p o one) ∙ other))
          where
            same_number : (p o : ℕ) → Some p ≡ Some o → nat_eq p o ≡ true
            same_number p o e = ap (λ q. unwrap_or (option_map (nat_eq p) q) false) (sym e) ∙ eq-eqb p p refl
        cases p m there member false true apart same =
            let siblings : are_siblings fields n m ≡ true = sibling_of fields n m differ apart (ap (λ q. same_oneof (oneof_of fields m) q) (sym is) ∙ ap (λ z. same_oneof (oneof_of fields m) (Some z)) (sym (eqb-true p o same)) ∙ member) in
            absurd (true≢false (sym siblings ∙ (before m apart there).0))
        cases p m there member false false apart other = noted_put_apart notes o n p m other ∙ noted.1 p m (before m apart there).1 member
