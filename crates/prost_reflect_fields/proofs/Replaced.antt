-- Maps with what others have at the numbers of a set.
use Rattle.std.specs.Prelude.{◌≡◌, ◌∷◌}
use Rattle.prost_reflect_fields.proofs.Common.{ℕ, Bool, true, false, cond, List, [], Option, Some, None, refl, ap, ap₂, sym, subst, ◌∙◌, true≢false, option_and_then, is_some, nat_cmp, is_eq, BTreeSet, IsStrictlySortedBy, Field, numbers_differ, FieldSlot, IsAscending, item_at, put_item, is_known, are_siblings, value_in, records_in, stored_at, records_at, Sound, unknown_kept, has, HasWholeOneofs, is_chosen, put_chosen, AreReplaced}
use Rattle.prost_reflect_maps.proofs.ItemChanges.{Apart, by_number, put_same, put_apart, none_above, ascending_put_item, itself}
use Rattle.prost_reflect_fields.proofs.Siblings.{siblings_back}
use Rattle.prost_reflect_maps.proofs.Places.{empty_ascends}

module _ {T : Type 0} where
  abbrev else_at : Option T → Option T → Option T
  else_at None o = o
  else_at (Some t) o = Some t

  else_none : (o : Option T) → else_at o None ≡ o
  else_none None = refl
  else_none (Some t) = refl

  abbrev chosen : (ℕ → Bool) → List (ℕ × T) → ℕ × T → List (ℕ × T)
  chosen test es d = cond (test d.0) (put_item es d.0 d.1) es

  -- at a number stands what was put there last
  pub chosen_at : (test : ℕ → Bool) (es ds : List (ℕ × T)) (n : ℕ) → IsAscending ds → item_at (put_chosen test es ds) n ≡ cond (test n) (else_at (item_at ds n) (item_at es n)) (item_at es n)
  unfolding IsStrictlySortedBy
  chosen_at test es [] n s = both (test n)
    where
      both : (b : Bool) → item_at es n ≡ cond b (item_at es n) (item_at es n)
      both true = refl
      both false = refl
  chosen_at test es (d ∷ ds) n s = chosen_at test (chosen test es d) ds n s.1 ∙ by_number n d.0 here there
    where
      here : n ≡ d.0 → cond (test n) (else_at (item_at ds n) (item_at (chosen test es d) n)) (item_at (chosen test es d) n) ≡ cond (test n) (else_at (item_at (d ∷ ds) n) (item_at es n)) (item_at es n)
      here is =
          let nothing : item_at ds n ≡ None = subst (λ z. item_at ds z ≡ None) (sym is) (none_above d.0 ds s.0) in
          let first : item_at (d ∷ ds) n ≡ Some d.1 = ap (λ o. cond (is_eq o) (Some d.1) (item_at ds n)) (ap (λ z. nat_cmp z d.0) is ∙ itself d.0) in
          ap (λ o. cond (test n) (else_at o (item_at (chosen test es d) n)) (item_at (chosen test es d) n)) nothing
          ∙ cases (test n) (ap test (sym is))
          ∙ ap (λ o. cond (test n) (else_at o (item_at es n)) (item_at es n)) (sym first)
        where
          cases : (b : Bool) → test d.0 ≡ b → cond b (item_at (chosen test es d) n) (item_at (chosen test es d) n) ≡ cond b (Some d.1) (item_at es n)
          cases true h = ap (λ b. item_at (cond b (put_item es d.0 d.1) es) n) h ∙ ap (item_at (put_item es d.0 d.1)) is ∙ put_same es d.0 d.1
          cases false h = ap (λ b. item_at (cond b (put_item es d.0 d.1) es) n) h

      there : Apart n d.0 → cond (test n) (else_at (item_at ds n) (item_at (chosen test es d) n)) (item_at (chosen test es d) n) ≡ cond (test n) (else_at (item_at (d ∷ ds) n) (item_at es n)) (item_at es n)
      there apart =
          ap₂ (λ o q. cond (test n) (else_at o q) q) (ap (λ b. cond b (Some d.1) (item_at ds n)) (sym apart)) (same (test d.0))
        where
          same : (b : Bool) → item_at (cond b (put_item es d.0 d.1) es) n ≡ item_at es n
          same true = put_apart es d.0 n d.1 apart
          same false = refl

  pub ascending_chosen : (test : ℕ → Bool) (es ds : List (ℕ × T)) → IsAscending es → IsAscending (put_chosen test es ds)
  ascending_chosen test es [] s = s
  ascending_chosen test es (d ∷ ds) s = ascending_chosen test (chosen test es d) ds (cases (test d.0))
    where
      cases : (b : Bool) → IsAscending (cond b (put_item es d.0 d.1) es)
      cases true = ascending_put_item es d.0 d.1 s
      cases false = s

  -- those of the set alone
  pub part_replaced : (numbers : BTreeSet ℕ) (es : List (ℕ × T)) → IsAscending es → AreReplaced numbers [] es (put_chosen (is_chosen numbers true) [] es)
  part_replaced numbers es s = record {
    at = λ n. chosen_at (is_chosen numbers true) [] es n s ∙ cases n (has numbers n);
    old_ascends = nothing_ascends;
    others_ascend = s;
    ascends = ascending_chosen (is_chosen numbers true) [] es nothing_ascends;
  }
    where
      nothing_ascends : IsAscending {T = T} []
      nothing_ascends = let none : List (ℕ × T) = [] in let same : none ≡ [] = refl in empty_ascends none same

      cases : (n : ℕ) (b : Bool) → cond b (else_at (item_at es n) None) None ≡ cond b (item_at es n) None
      cases n true = else_none (item_at es n)
      cases n false = refl

-- WHAT A MESSAGE'S SLOTS KEEP

abbrev has_in : {V : Type 0} → Option (FieldSlot V) → Bool
has_in o = is_some (option_and_then value_in o)

pub sound_part : {V : Type 0} (numbers : BTreeSet ℕ) (es new : List (ℕ × FieldSlot V)) (fields : List Field) → AreReplaced numbers [] es new → Sound fields es → Sound fields new
sound_part {V} numbers es new fields replaced s = (
  λ n v. known n (has numbers n) (ap has_in (sym (replaced.at n)) ∙ v),
  λ n. ap (λ o. unknown_kept fields n (option_and_then records_in o)) (replaced.at n) ∙ kept n (has numbers n),
  λ m n v siblings. ap has_in (replaced.at n) ∙ single m n siblings (has numbers m) (has numbers n) (ap has_in (sym (replaced.at m)) ∙ v),
)
  where
    known : (n : ℕ) (b : Bool) → is_some (option_and_then value_in (cond b (item_at es n) None)) ≡ true → is_known fields n ≡ true
    known n true h = s.0 n h
    known n false h = absurd (true≢false (sym h))

    kept : (n : ℕ) (b : Bool) → unknown_kept fields n (option_and_then records_in (cond b (item_at es n) None)) ≡ true
    kept n true = s.1 n
    kept n false = refl

    single : (m n : ℕ) → are_siblings fields m n ≡ true → (a b : Bool) → is_some (option_and_then value_in (cond a (item_at es m) None)) ≡ true → is_some (option_and_then value_in (cond b (item_at es n) None)) ≡ false
    single m n siblings true true h = s.2 m n h siblings
    single m n siblings a false h = refl
    single m n siblings false b h = absurd (true≢false (sym h))

module _ {V : Type 0} (numbers : BTreeSet ℕ) (old others new : List (ℕ × FieldSlot V)) (replaced : AreReplaced numbers old others new) where
  pub values_replaced : (n : ℕ) → stored_at new n ≡ cond (has numbers n) (stored_at others n) (stored_at old n)
  values_replaced n = ap (option_and_then value_in) (replaced.at n) ∙ cases (has numbers n)
    where
      cases : (b : Bool) → option_and_then value_in (cond b (item_at others n) (item_at old n)) ≡ cond b (stored_at others n) (stored_at old n)
      cases true = refl
      cases false = refl

  pub records_replaced : (n : ℕ) → records_at new n ≡ cond (has numbers n) (records_at others n) (records_at old n)
  records_replaced n = ap (option_and_then records_in) (replaced.at n) ∙ cases (has numbers n)
    where
      cases : (b : Bool) → option_and_then records_in (cond b (item_at others n) (item_at old n)) ≡ cond b (records_at others n) (records_at old n)
      cases true = refl
      cases false = refl

  pub sound_replaced : (fields : List Field) → numbers_differ fields ≡ true → HasWholeOneofs fields numbers → Sound fields old → Sound fields others → Sound fields new
  sound_replaced fields differ whole s r = (
    λ n v. known n (has numbers n) (ap is_some (sym (values_replaced n)) ∙ v),
    λ n. ap (unknown_kept fields n) (records_replaced n) ∙ kept n (has numbers n),
    λ m n v siblings. ap is_some (values_replaced n) ∙ single m n siblings (has numbers m) refl (has numbers n) refl (ap is_some (sym (values_replaced m)) ∙ v),
  )
    where
      known : (n : ℕ) (b : Bool) → is_some (cond b (stored_at others n) (stored_at old n)) ≡ true → is_known fields n ≡ true
      known n true h = r.0 n h
      known n false h = s.0 n h

      kept : (n : ℕ) (b : Bool) → unknown_kept fields n (cond b (records_at others n) (records_at old n)) ≡ true
      kept n true = r.1 n
      kept n false = s.1 n

      single : (m n : ℕ) → are_siblings fields m n ≡ true → (a : Bool) → has numbers m ≡ a → (b : Bool) → has numbers n ≡ b → is_some (cond a (stored_at others m) (stored_at old m)) ≡ true → is_some (cond b (stored_at others n) (stored_at old n)) ≡ false
      single m n siblings true x true y h = r.2 m n h siblings
      single m n siblings false x false y h = s.2 m n h siblings
      single m n siblings true x false y h = absurd (true≢false (sym (whole m n x siblings) ∙ y))
      single m n siblings false x true y h = absurd (true≢false (sym (whole n m y (siblings_back fields m n differ siblings)) ∙ x))
