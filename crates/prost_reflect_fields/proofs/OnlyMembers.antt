-- Setting where it is known which member of a oneof can have a value.
use Rattle.std.specs.Prelude.{◌≡◌, ◌||◌}
use Rattle.prost_reflect_fields.proofs.Common.{ℕ, Bool, true, false, cond, not, nat_eq, List, Option, Some, None, refl, ap, sym, ◌∙◌, subst, true≢false, eq-eqb, ne_eqb, eqb-true, and_parts, and_from, option_and_then, is_some, Field, same_oneof, numbers_differ, FieldSlot, Value, Unknown, Both, IsAscending, item_at, value_in, left_in, has_value, put_value, clear_value, without_values, oneof_of, are_siblings, OnlyMember}
use Rattle.prost_reflect_maps.proofs.ItemChanges.{apart_of, same_items}
use Rattle.prost_reflect_fields.proofs.SlotChanges.{item_without, ascending_without_values, value_put_apart}
use Rattle.prost_reflect_fields.proofs.Siblings.{siblings_self}
use Rattle.prost_reflect_fields.proofs.PresentSiblings.{others_are_siblings}

-- ONEOFS

pub same_through : (a b c : Option ℕ) → same_oneof a c ≡ true → same_oneof b c ≡ true → same_oneof b a ≡ true
same_through None b c h g = absurd (true≢false (sym h))
same_through (Some i) None c h g = absurd (true≢false (sym g))
same_through (Some i) (Some j) None h g = absurd (true≢false (sym h))
same_through (Some i) (Some j) (Some o) h g = eq-eqb j i (eqb-true j o g ∙ sym (eqb-true i o h))

-- another member of the oneof of n's field is a sibling
pub sibling_of : (fields : List Field) (n k : ℕ) → numbers_differ fields ≡ true → nat_eq k n ≡ false → same_oneof (oneof_of fields k) (oneof_of fields n) ≡ true → are_siblings fields n k ≡ true
sibling_of fields n k differ apart same = sym (others_are_siblings fields n k differ) ∙ and_from (not (nat_eq k n)) _ (ap not apart) same

-- and so is a member of a sibling's
pub oneof_shared : (fields : List Field) (n k : ℕ) → numbers_differ fields ≡ true → are_siblings fields n k ≡ true → same_oneof (oneof_of fields k) (oneof_of fields n) ≡ true
oneof_shared fields n k differ h = (and_parts (not (nat_eq k n)) _ (others_are_siblings fields n k differ ∙ h)).1

module _ {V : Type 0} where
  -- n is no sibling of its own, so a value there changes nothing
  pub only_put : (fields : List Field) (es : List (ℕ × FieldSlot V)) (n k : ℕ) (v : V) → OnlyMember fields es n k → OnlyMember fields (put_value es n v) n k
  only_put fields es n k v only = record {
    member = only.member;
    others = λ j sibling apart. ap is_some (value_put_apart es n j v (apart_of n j (λ e. absurd (true≢false (sym (subst (λ z. are_siblings fields n z ≡ true) e sibling) ∙ siblings_self fields n))))) ∙ only.others j sibling apart;
  }

  -- CLEARED

  nothing_there : (o : Option (FieldSlot V)) → is_some (option_and_then value_in o) ≡ false → option_and_then left_in o ≡ o
  nothing_there None h = refl
  nothing_there (Some (Value v)) h = absurd (true≢false h)
  nothing_there (Some (Unknown u)) h = refl
  nothing_there (Some (Both v u)) h = absurd (true≢false h)

  -- where none has a value, there is none to clear
  pub none_cleared : (test : ℕ → Bool) (es : List (ℕ × FieldSlot V)) → IsAscending es → ((k : ℕ) → test k ≡ true → has_value es k ≡ false) → es ≡ without_values test es
  none_cleared test es s none = same_items es (without_values test es) s (ascending_without_values test es s) (λ k. cases k (test k) refl ∙ sym (item_without test es k s))
    where
      cases : (k : ℕ) (b : Bool) → test k ≡ b → item_at es k ≡ cond b (option_and_then left_in (item_at es k)) (item_at es k)
      cases k true is = sym (nothing_there (item_at es k) (none k is))
      cases k false is = refl

  module _ (fields : List Field) (es : List (ℕ × FieldSlot V)) (n k : ℕ) (s : IsAscending es) (only : OnlyMember fields es n k) where
    abbrev left : Bool → ℕ → Option (FieldSlot V)
    left b j = cond b (option_and_then left_in (item_at es j)) (item_at es j)

    pub other_cleared : nat_eq k n ≡ false → clear_value es k ≡ without_values (are_siblings fields n) es
    other_cleared apart = same_items (clear_value es k) (without_values (are_siblings fields n) es) (ascending_without_values (nat_eq k) es s) (ascending_without_values (are_siblings fields n) es s)
        (λ j. item_without (nat_eq k) es j s ∙ cases j (nat_eq k j) refl ∙ sym (item_without (are_siblings fields n) es j s))
      where
        own : are_siblings fields n k ≡ true
        own = ap (λ b. b || are_siblings fields n k) (sym apart) ∙ only.member

        other : (j : ℕ) (b : Bool) → are_siblings fields n j ≡ b → nat_eq k j ≡ false → item_at es j ≡ left b j
        other j true is at = sym (nothing_there (item_at es j) (only.others j is at))
        other j false is at = refl

        cases : (j : ℕ) (b : Bool) → nat_eq k j ≡ b → left b j ≡ left (are_siblings fields n j) j
        cases j true at = ap (λ b. left b j) (sym (ap (are_siblings fields n) (sym (eqb-true k j at)) ∙ own))
        cases j false at = other j (are_siblings fields n j) refl at

    pub none_other : nat_eq k n ≡ true → es ≡ without_values (are_siblings fields n) es
    none_other same = none_cleared (are_siblings fields n) es s (λ j is. only.others j is (not_own j is))
      where
        not_own : (j : ℕ) → are_siblings fields n j ≡ true → nat_eq k j ≡ false
        not_own j is = ne_eqb k j (λ e. true≢false (sym is ∙ ap (are_siblings fields n) (sym e ∙ eqb-true k n same) ∙ siblings_self fields n))
