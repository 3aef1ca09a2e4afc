-- What a change keeps of what a message's slots keep.
use Rattle.std.specs.Prelude.{◌≡◌, ◌++◌, ◌∷◌}
use Rattle.prost_reflect_fields.proofs.Common.{unwrap_or, Bool, true, false, cond, ℕ, nat_eq, List, [], Option, None, Some, ap, sym, ◌∙◌, subst, refl, true≢false, eq-eqb, eqb-true, eqb-false, and_parts, and_from, false_from_ne_true, option_and_then, option_map, is_some, list_all, Field, numbers_differ, FieldSlot, IsAscending, item_at, with_item, is_known, are_siblings, keeps_unknown, all_kept, are_records_of, value_in, records_in, stored_at, records_at, has_value, revalued, put_value, without_values, with_value, with_slot, SameStored, UnknownAdded, OneofsSingle, Sound, unknown_kept, set_value_at, prepared}
use Rattle.prost_reflect_wire.specs.Record.{Record}
use Rattle.prost_reflect_wire.proofs.Deeper.{all_append}
use Rattle.prost_reflect_maps.proofs.ItemChanges.{at_each, apart_of, with_same, with_apart, not_both}
use Rattle.prost_reflect_fields.proofs.SlotChanges.{value_without, records_without, ascending_put, value_put, value_put_apart, records_put, same_values, same_records, value_kept, records_kept, ascending_without_values, ascending_with_value, value_written, value_written_apart, records_written}
use Rattle.prost_reflect_fields.proofs.Siblings.{siblings_back, siblings_self}

added_kept : (fields : List Field) (n : ℕ) (r : Record) (o : Option (List Record)) → r.number ≡ n → keeps_unknown fields n r.payload ≡ true → unknown_kept fields n o ≡ true → unknown_kept fields n (Some (unwrap_or o [] ++ r ∷ [])) ≡ true
added_kept fields n r o own keeps h = cases o h
  where
    one : list_all (λ (r : Record). nat_eq r.number n) (r ∷ []) ≡ true
    one = and_from _ _ (eq-eqb r.number n own) refl

    one_kept : all_kept fields n (r ∷ []) ≡ true
    one_kept = and_from _ _ keeps refl

    all : (rs : List Record) → are_records_of n rs ≡ true → are_records_of n (rs ++ r ∷ []) ≡ true
    all [] h = cc
    all (q ∷ rs) h = all_append (λ (r : Record). nat_eq r.number n) (q ∷ rs) (r ∷ []) h one

    cases : (o : Option (List Record)) → unknown_kept fields n o ≡ true → unknown_kept fields n (Some (unwrap_or o [] ++ r ∷ [])) ≡ true
    cases None h = and_from _ _ one_kept one
    cases (Some rs) h =
        let (kept, of_number) = and_parts (all_kept fields n rs) (are_records_of n rs) h in
        and_from _ _ (all_append (λ (r : Record). keeps_unknown fields n r.payload) rs (r ∷ []) kept one_kept) (all rs of_number)

module _ {V : Type 0} where
  -- values at no more numbers, and the same unknown records
  pub record Fewer (ds es : List (ℕ × FieldSlot V)) : Type 0 where
    pub values : (k : ℕ) → has_value ds k ≡ true → has_value es k ≡ true
    pub records : (k : ℕ) → records_at ds k ≡ records_at es k

  without : (ds es : List (ℕ × FieldSlot V)) (k : ℕ) → Fewer ds es → has_value es k ≡ false → has_value ds k ≡ false
  without ds es k less h = false_from_ne_true (has_value ds k) (λ t. not_both (has_value es k) (less.values k t) h)

  pub single_less : (fields : List Field) (ds es : List (ℕ × FieldSlot V)) → Fewer ds es → OneofsSingle fields es → OneofsSingle fields ds
  single_less fields ds es less before m n v siblings = without ds es n less (before m n (less.values m v) siblings)

  pub sound_less : (fields : List Field) (ds es : List (ℕ × FieldSlot V)) → Fewer ds es → Sound fields es → Sound fields ds
  sound_less fields ds es less s = (
    λ n v. s.0 n (less.values n v),
    λ n. ap (unknown_kept fields n) (less.records n) ∙ s.1 n,
    single_less fields ds es less s.2,
  )

  pub fewer_without : (test : ℕ → Bool) (es : List (ℕ × FieldSlot V)) → IsAscending es → Fewer (without_values test es) es
  fewer_without test es s = record {
    values = λ k h. cases (test k) (stored_at es k) (ap is_some (sym (value_without test es k s)) ∙ h);
    records = λ k. records_without test es k s;
  }
    where
      cases : (b : Bool) (o : Option V) → is_some (cond b None o) ≡ true → is_some o ≡ true
      cases true o h = cc
      cases false o h = h

  pub sound_without : (fields : List Field) (test : ℕ → Bool) (es : List (ℕ × FieldSlot V)) → IsAscending es → Sound fields es → Sound fields (without_values test es)
  sound_without fields test es s = sound_less fields (without_values test es) es (fewer_without test es s)

  fewer_revalued : (es : List (ℕ × FieldSlot V)) (n : ℕ) (e : FieldSlot V) (w : V) → item_at es n ≡ Some e → Fewer (with_item es n (revalued e w)) es
  fewer_revalued es n e w h =
      let there : item_at (with_item es n (revalued e w)) n ≡ Some (revalued e w) = with_same es n (revalued e w) e h in
      record {
        values = λ k v. sym (at_each (λ k. has_value (with_item es n (revalued e w)) k ≡ has_value es k) n
            (ap (λ o. is_some (option_and_then value_in o)) there ∙ value_kept e w ∙ ap (λ o. is_some (option_and_then value_in o)) (sym h))
            (λ k a. ap is_some (same_values es (with_item es n (revalued e w)) k (with_apart es n k (revalued e w) a))) k) ∙ v;
        records = at_each (λ k. records_at (with_item es n (revalued e w)) k ≡ records_at es k) n
            (ap (option_and_then records_in) there ∙ records_kept e w ∙ ap (option_and_then records_in) (sym h))
            (λ k a. same_records es (with_item es n (revalued e w)) k (with_apart es n k (revalued e w) a));
      }

  pub fewer_written : (es : List (ℕ × FieldSlot V)) (n : ℕ) (w : V) → Fewer (with_value es n w) es
  fewer_written es n w = cases (item_at es n) refl
    where
      cases : (o : Option (FieldSlot V)) → item_at es n ≡ o → Fewer (with_slot es n w o) es
      cases None at = record { values = λ k h. h; records = λ k. refl }
      cases (Some e) at = fewer_revalued es n e w at

  pub sound_written : (fields : List Field) (es : List (ℕ × FieldSlot V)) (n : ℕ) (w : V) → Sound fields es → Sound fields (with_value es n w)
  sound_written fields es n w = sound_less fields (with_value es n w) es (fewer_written es n w)

  -- SETTING

  pub value_set_at : (fields : List Field) (es : List (ℕ × FieldSlot V)) (n : ℕ) (v : V) (k : ℕ) → IsAscending es
      → stored_at (set_value_at fields es n v) k ≡ cond (nat_eq k n) (Some v) (cond (are_siblings fields n k) None (stored_at es k))
  value_set_at fields es n v k s = value_without (are_siblings fields n) (put_value es n v) k (ascending_put es n v s) ∙ cases (nat_eq k n) refl
    where
      cases : (b : Bool) → nat_eq k n ≡ b → cond (are_siblings fields n k) None (stored_at (put_value es n v) k) ≡ cond b (Some v) (cond (are_siblings fields n k) None (stored_at es k))
      cases true at =
          let same : k ≡ n = eqb-true k n at in
          ap (λ z. cond (are_siblings fields n z) None (stored_at (put_value es n v) z)) same ∙ ap (λ b. cond b None (stored_at (put_value es n v) n)) (siblings_self fields n) ∙ value_put es n v
      cases false at = ap (cond (are_siblings fields n k) None) (value_put_apart es n k v (apart_of n k (eqb-false k n at)))

  pub records_set_at : (fields : List Field) (es : List (ℕ × FieldSlot V)) (n : ℕ) (v : V) (k : ℕ) → IsAscending es → records_at (set_value_at fields es n v) k ≡ records_at es k
  records_set_at fields es n v k s = records_without (are_siblings fields n) (put_value es n v) k (ascending_put es n v s) ∙ records_put es n v k

  pub ascending_set_at : (fields : List Field) (es : List (ℕ × FieldSlot V)) (n : ℕ) (v : V) → IsAscending es → IsAscending (set_value_at fields es n v)
  ascending_set_at fields es n v s = ascending_without_values (are_siblings fields n) (put_value es n v) (ascending_put es n v s)

  pub value_set : (fields : List Field) (es : List (ℕ × FieldSlot V)) (n : ℕ) (v : V) → IsAscending es → stored_at (set_value_at fields es n v) n ≡ Some v
  value_set fields es n v s = value_set_at fields es n v n s ∙ ap (λ b. cond b (Some v) (cond (are_siblings fields n n) None (stored_at es n))) (eq-eqb n n refl)

  not_cleared : (b : Bool) (o : Option V) → is_some (cond b None o) ≡ true → (b ≡ false) × (is_some o ≡ true)
  not_cleared true o h = cc
  not_cleared false o h = (refl, h)

  pub single_set : (fields : List Field) (es : List (ℕ × FieldSlot V)) (n : ℕ) (v : V) → IsAscending es → numbers_differ fields ≡ true → OneofsSingle fields es → OneofsSingle fields (set_value_at fields es n v)
  single_set fields es n v s differ before m k h siblings =
      ap is_some (value_set_at fields es n v k s) ∙ single m k (nat_eq m n) (nat_eq k n) refl refl (ap is_some (sym (value_set_at fields es n v m s)) ∙ h) siblings
    where
      cleared : (b : Bool) (o : Option V) → is_some o ≡ false → is_some (cond b None o) ≡ false
      cleared true o h = refl
      cleared false o h = h

      single : (m k : ℕ) (a b : Bool) → nat_eq m n ≡ a → nat_eq k n ≡ b → is_some (cond a (Some v) (cond (are_siblings fields n m) None (stored_at es m))) ≡ true → are_siblings fields m k ≡ true
          → is_some (cond b (Some v) (cond (are_siblings fields n k) None (stored_at es k))) ≡ false
      single m k true true at to h siblings =
          absurd (true≢false (sym (subst (λ z. are_siblings fields m z ≡ true) (eqb-true k n to ∙ sym (eqb-true m n at)) siblings) ∙ siblings_self fields m))
      single m k true false at to h siblings =
          ap (λ b. is_some (cond b None (stored_at es k))) (subst (λ z. are_siblings fields z k ≡ true) (eqb-true m n at) siblings)
      single m k false true at to h siblings =
          let back : are_siblings fields n m ≡ true = siblings_back fields m n differ (subst (λ z. are_siblings fields m z ≡ true) (eqb-true k n to) siblings) in
          absurd (true≢false (sym back ∙ (not_cleared (are_siblings fields n m) (stored_at es m) h).0))
      single m k false false at to h siblings =
          cleared (are_siblings fields n k) (stored_at es k) (before m k (not_cleared (are_siblings fields n m) (stored_at es m) h).1 siblings)

  pub sound_set : (fields : List Field) (es : List (ℕ × FieldSlot V)) (n : ℕ) (v : V) → IsAscending es → numbers_differ fields ≡ true → is_known fields n ≡ true → Sound fields es → Sound fields (set_value_at fields es n v)
  sound_set fields es n v s differ known sound = (
    λ k h. values k (nat_eq k n) refl (ap is_some (sym (value_set_at fields es n v k s)) ∙ h),
    λ k. ap (unknown_kept fields k) (records_set_at fields es n v k s) ∙ sound.1 k,
    single_set fields es n v s differ sound.2,
  )
    where
      values : (k : ℕ) (b : Bool) → nat_eq k n ≡ b → is_some (cond b (Some v) (cond (are_siblings fields n k) None (stored_at es k))) ≡ true → is_known fields k ≡ true
      values k true at h = subst (λ z. is_known fields z ≡ true) (sym (eqb-true k n at)) known
      values k false at h = sound.0 k (not_cleared (are_siblings fields n k) (stored_at es k) h).1

  -- WRITING ACCESS

  pub sound_prepared : (fields : List Field) (es : List (ℕ × FieldSlot V)) (n : ℕ) (v : V) → IsAscending es → numbers_differ fields ≡ true → is_known fields n ≡ true → Sound fields es → Sound fields (prepared fields es n v)
  sound_prepared fields es n v s differ known sound = cases (has_value es n)
    where
      cases : (b : Bool) → Sound fields (cond b es (set_value_at fields es n v))
      cases true = sound
      cases false = sound_set fields es n v s differ known sound

  -- a value that was there is written over as it is set, since no sibling has one
  over_value : (fields : List Field) (es : List (ℕ × FieldSlot V)) (n : ℕ) (w : V) (k : ℕ) → Sound fields es → has_value es n ≡ true → stored_at (with_value es n w) k ≡ cond (nat_eq k n) (Some w) (cond (are_siblings fields n k) None (stored_at es k))
  over_value fields es n w k sound here = cases (nat_eq k n) refl
    where
      there : (o : Option V) → is_some o ≡ true → option_map (λ _. w) o ≡ Some w
      there None h = cc
      there (Some v) h = refl

      absent : (o : Option V) → is_some o ≡ false → o ≡ None
      absent None h = refl
      absent (Some v) h = cc

      sibling : (b : Bool) → are_siblings fields n k ≡ b → stored_at es k ≡ cond b None (stored_at es k)
      sibling true at = absent (stored_at es k) (sound.2 n k here at)
      sibling false at = refl

      cases : (b : Bool) → nat_eq k n ≡ b → stored_at (with_value es n w) k ≡ cond b (Some w) (cond (are_siblings fields n k) None (stored_at es k))
      cases true at = ap (stored_at (with_value es n w)) (eqb-true k n at) ∙ value_written es n w ∙ there (stored_at es n) here
      cases false at = value_written_apart es n k w (apart_of n k (eqb-false k n at)) ∙ sibling (are_siblings fields n k) refl

  -- one that was just set is written over as if the other had been set
  over_set : (fields : List Field) (es : List (ℕ × FieldSlot V)) (n : ℕ) (v w : V) (k : ℕ) → IsAscending es → stored_at (with_value (set_value_at fields es n v) n w) k ≡ cond (nat_eq k n) (Some w) (cond (are_siblings fields n k) None (stored_at es k))
  over_set fields es n v w k s = cases (nat_eq k n) refl
    where
      cases : (b : Bool) → nat_eq k n ≡ b → stored_at (with_value (set_value_at fields es n v) n w) k ≡ cond b (Some w) (cond (are_siblings fields n k) None (stored_at es k))
      cases true at = ap (stored_at (with_value (set_value_at fields es n v) n w)) (eqb-true k n at) ∙ value_written (set_value_at fields es n v) n w ∙ ap (option_map (λ _. w)) (value_set fields es n v s)
      cases false at = value_written_apart (set_value_at fields es n v) n k w (apart_of n k (eqb-false k n at)) ∙ value_set_at fields es n v k s ∙ ap (λ b. cond b (Some v) (cond (are_siblings fields n k) None (stored_at es k))) at

  -- writing access leaves what a set leaves
  pub written_is_set : (fields : List Field) (es : List (ℕ × FieldSlot V)) (n : ℕ) (v w : V) → IsAscending es → Sound fields es → SameStored (set_value_at fields es n w) (with_value (prepared fields es n v) n w)
  written_is_set fields es n v w s sound = cases (has_value es n) refl
    where
      cases : (b : Bool) → has_value es n ≡ b → SameStored (set_value_at fields es n w) (with_value (cond b es (set_value_at fields es n v)) n w)
      cases true at = record {
        values = λ k. over_value fields es n w k sound at ∙ sym (value_set_at fields es n w k s);
        records = λ k. records_written es n w k ∙ sym (records_set_at fields es n w k s);
        order = λ _. ascending_with_value es n w s;
      }
      cases false at = record {
        values = λ k. over_set fields es n v w k s ∙ sym (value_set_at fields es n w k s);
        records = λ k. records_written (set_value_at fields es n v) n w k ∙ records_set_at fields es n v k s ∙ sym (records_set_at fields es n w k s);
        order = λ _. ascending_with_value (set_value_at fields es n v) n w (ascending_set_at fields es n v s);
      }

  -- UNKNOWN RECORDS

  pub sound_stored : (fields : List Field) (es ds : List (ℕ × FieldSlot V)) → SameStored es ds → Sound fields es → Sound fields ds
  sound_stored fields es ds same = sound_less fields ds es (record { values = λ k h. ap is_some (sym (same.values k)) ∙ h; records = same.records })

  pub sound_added : (fields : List Field) (es ds : List (ℕ × FieldSlot V)) (r : Record) → UnknownAdded es ds r → keeps_unknown fields r.number r.payload ≡ true → Sound fields es → Sound fields ds
  sound_added fields es ds r added keeps sound = (
    λ n v. sound.0 n (ap is_some (sym (added.values n)) ∙ v),
    λ n. cases n (nat_eq n r.number) refl,
    λ m n v siblings. ap is_some (added.values n) ∙ sound.2 m n (ap is_some (sym (added.values m)) ∙ v) siblings,
  )
    where
      cases : (n : ℕ) (b : Bool) → nat_eq n r.number ≡ b → unknown_kept fields n (records_at ds n) ≡ true
      cases n true at =
          subst (λ z. unknown_kept fields z (records_at ds z) ≡ true) (sym (eqb-true n r.number at))
          (ap (unknown_kept fields r.number) added.here ∙ added_kept fields r.number r (records_at es r.number) refl keeps (sound.1 r.number))
      cases n false at = ap (unknown_kept fields n) (added.elsewhere n (eqb-false n r.number at)) ∙ sound.1 n
