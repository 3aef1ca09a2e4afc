-- The values and the unknown fields at each number after a change.
use Rattle.std.specs.Prelude.{◌≡◌, ◌++◌, ◌||◌, ◌∷◌}
use Rattle.prost_reflect_fields.proofs.Common.{unwrap_or, Bool, true, false, cond, ℕ, nat_eq, List, [], Option, None, Some, ap, sym, ◌∙◌, subst, refl, true≢false, eq-eqb, ne_eqb, option_and_then, option_map, is_some, nat_cmp, is_eq, Less, AllByRecursion, IsStrictlySortedBy, keys_of, records_of, FieldSlot, Value, Unknown, Both, IsAscending, item_at, with_item, put_item, without_item, value_in, records_in, stored_at, records_at, with_value_in, without_value_beside, revalued, put_slot, put_value, left_in, then_slot, without_values, clear_value, with_slot, with_value, AddedIn, SameIn, SameStored, UnknownAdded}
use Rattle.prost_reflect_wire.specs.Record.{Record}
use Rattle.prost_reflect_wire.specs.declared.unknown.UnknownFieldSet.{UnknownFieldSet}
use Rattle.prost_reflect_maps.proofs.ItemChanges.{Apart, by_number, at_each, apart_of, apart_back, itself, none_above, same_items, put_same, put_apart, without_same, without_apart, with_same, with_apart, ascending_without, ascending_with, ascending_put_item}

module _ {V : Type 0} where
  -- what one lookup says of another
  pub same_values : (es ds : List (ℕ × FieldSlot V)) (k : ℕ) → item_at ds k ≡ item_at es k → stored_at ds k ≡ stored_at es k
  same_values es ds k h = ap (option_and_then value_in) h

  pub same_records : (es ds : List (ℕ × FieldSlot V)) (k : ℕ) → item_at ds k ≡ item_at es k → records_at ds k ≡ records_at es k
  same_records es ds k h = ap (option_and_then records_in) h

  -- CLEARING

  no_value_left : (o : Option (FieldSlot V)) → option_and_then value_in (option_and_then left_in o) ≡ None
  no_value_left None = refl
  no_value_left (Some (Value v)) = refl
  no_value_left (Some (Unknown u)) = refl
  no_value_left (Some (Both v u)) = refl

  records_left : (o : Option (FieldSlot V)) → option_and_then records_in (option_and_then left_in o) ≡ option_and_then records_in o
  records_left None = refl
  records_left (Some (Value v)) = refl
  records_left (Some (Unknown u)) = refl
  records_left (Some (Both v u)) = refl

  all_without : (P : ℕ → Type 0) (test : ℕ → Bool) (es : List (ℕ × FieldSlot V)) → AllByRecursion P (keys_of es) → AllByRecursion P (keys_of (without_values test es))
  all_without P test [] a = a
  all_without P test (e ∷ es) a = cases (cond (test e.0) (left_in e.1) (Some e.1)) (all_without P test es a.1)
    where
      cases : (o : Option (FieldSlot V)) → AllByRecursion P (keys_of (without_values test es)) → AllByRecursion P (keys_of (then_slot e.0 o (without_values test es)))
      cases None rest = rest
      cases (Some d) rest = (a.0, rest)

  pub ascending_without_values : (test : ℕ → Bool) (es : List (ℕ × FieldSlot V)) → IsAscending es → IsAscending (without_values test es)
  unfolding IsStrictlySortedBy
  ascending_without_values test [] s = s
  ascending_without_values test (e ∷ es) s = cases (cond (test e.0) (left_in e.1) (Some e.1)) (ascending_without_values test es s.1)
    where
      cases : (o : Option (FieldSlot V)) → IsAscending (without_values test es) → IsAscending (then_slot e.0 o (without_values test es))
      cases None rest = rest
      cases (Some d) rest = (all_without (λ y. nat_cmp e.0 y ≡ Less) test es s.0, rest)

  nothing_left : (b : Bool) (es : List (ℕ × FieldSlot V)) → es ≡ [] → None ≡ cond b (option_and_then left_in (item_at es 0)) (item_at es 0)
  nothing_left true [] e = refl
  nothing_left false [] e = refl
  nothing_left b (x ∷ es) e = cc

  pub item_without : (test : ℕ → Bool) (es : List (ℕ × FieldSlot V)) (k : ℕ) → IsAscending es
      → item_at (without_values test es) k ≡ cond (test k) (option_and_then left_in (item_at es k)) (item_at es k)
  unfolding IsStrictlySortedBy
  item_without test [] k s = nothing_left (test k) [] refl
  item_without test (e ∷ es) k s = by_number k e.0
      (λ is. here is (test k) refl)
      (λ apart. there (cond (test e.0) (left_in e.1) (Some e.1)) apart ∙ item_without test es k s.1 ∙ ap (λ b. cond (test k) (option_and_then left_in (cond b (Some e.1) (item_at es k))) (cond b (Some e.1) (item_at es k))) (sym apart))
    where
      rest : List (ℕ × FieldSlot V)
      rest = without_values test es

      there : (o : Option (FieldSlot V)) → Apart k e.0 → item_at (then_slot e.0 o (without_values test es)) k ≡ item_at (without_values test es) k
      there None apart = refl
      there (Some d) apart = ap (λ b. cond b (Some d) (item_at (without_values test es) k)) apart

      none_behind : k ≡ e.0 → item_at (without_values test es) k ≡ None
      none_behind is = none_above k (without_values test es) (subst (λ z. AllByRecursion (λ y. nat_cmp z y ≡ Less) (keys_of (without_values test es))) (sym is) (all_without (λ y. nat_cmp e.0 y ≡ Less) test es s.0))

      now : (o : Option (FieldSlot V)) → k ≡ e.0 → item_at (then_slot e.0 o (without_values test es)) k ≡ o
      now None is = none_behind is
      now (Some d) is = ap (λ b. cond b (Some d) (item_at (without_values test es) k)) (ap is_eq (ap (nat_cmp k) (sym is) ∙ itself k))

      found : k ≡ e.0 → item_at (e ∷ es) k ≡ Some e.1
      found is = ap (λ b. cond b (Some e.1) (item_at es k)) (ap is_eq (ap (nat_cmp k) (sym is) ∙ itself k))

      here : k ≡ e.0 → (b : Bool) → test k ≡ b → item_at (without_values test (e ∷ es)) k ≡ cond (test k) (option_and_then left_in (item_at (e ∷ es) k)) (item_at (e ∷ es) k)
      here is b t = now (cond (test e.0) (left_in e.1) (Some e.1)) is
          ∙ ap (λ z. cond (test z) (left_in e.1) (Some e.1)) (sym is)
          ∙ sym (ap (λ o. cond (test k) (option_and_then left_in o) o) (found is))

  pub value_without : (test : ℕ → Bool) (es : List (ℕ × FieldSlot V)) (k : ℕ) → IsAscending es → stored_at (without_values test es) k ≡ cond (test k) None (stored_at es k)
  value_without test es k s = ap (option_and_then value_in) (item_without test es k s) ∙ cases (test k)
    where
      cases : (b : Bool) → option_and_then value_in (cond b (option_and_then left_in (item_at es k)) (item_at es k)) ≡ cond b None (stored_at es k)
      cases true = no_value_left (item_at es k)
      cases false = refl

  pub records_without : (test : ℕ → Bool) (es : List (ℕ × FieldSlot V)) (k : ℕ) → IsAscending es → records_at (without_values test es) k ≡ records_at es k
  records_without test es k s = ap (option_and_then records_in) (item_without test es k s) ∙ cases (test k)
    where
      cases : (b : Bool) → option_and_then records_in (cond b (option_and_then left_in (item_at es k)) (item_at es k)) ≡ records_at es k
      cases true = records_left (item_at es k)
      cases false = refl

  nothing_passes : (es : List (ℕ × FieldSlot V)) → without_values (λ k. false) es ≡ es
  nothing_passes [] = refl
  nothing_passes (e ∷ es) = ap (λ ds. e ∷ ds) (nothing_passes es)

  left_twice : (o : Option (FieldSlot V)) → option_and_then left_in (option_and_then left_in o) ≡ option_and_then left_in o
  left_twice None = refl
  left_twice (Some (Value v)) = refl
  left_twice (Some (Unknown u)) = refl
  left_twice (Some (Both v u)) = refl

  -- two clearings are one
  pub without_both : (p q r : ℕ → Bool) (es : List (ℕ × FieldSlot V)) → IsAscending es → ((k : ℕ) → r k ≡ (q k || p k)) → without_values p (without_values q es) ≡ without_values r es
  without_both p q r es s h = same_items (without_values p (without_values q es)) (without_values r es) (ascending_without_values p (without_values q es) between) (ascending_without_values r es s)
      (λ k. item_without p (without_values q es) k between ∙ ap (λ o. cond (p k) (option_and_then left_in o) o) (item_without q es k s) ∙ cases (item_at es k) (p k) (q k)
      ∙ ap (λ b. cond b (option_and_then left_in (item_at es k)) (item_at es k)) (sym (h k)) ∙ sym (item_without r es k s))
    where
      between : IsAscending (without_values q es)
      between = ascending_without_values q es s

      cases : (o : Option (FieldSlot V)) (a b : Bool) → cond a (option_and_then left_in (cond b (option_and_then left_in o) o)) (cond b (option_and_then left_in o) o) ≡ cond (b || a) (option_and_then left_in o) o
      cases o true true = left_twice o
      cases o true false = refl
      cases o false true = refl
      cases o false false = refl

  pub without_none : (test : ℕ → Bool) (es : List (ℕ × FieldSlot V)) → ((k : ℕ) → test k ≡ false) → without_values test es ≡ es
  without_none test es h = (λ i. without_values (λ k. h k i) es) ∙ nothing_passes es

  pub without_same_test : (p q : ℕ → Bool) (es : List (ℕ × FieldSlot V)) → ((k : ℕ) → p k ≡ q k) → without_values p es ≡ without_values q es
  without_same_test p q es h = λ i. without_values (λ k. h k i) es

  -- what clears one number
  cleared_by : (es ds : List (ℕ × FieldSlot V)) (n : ℕ) → IsAscending es → IsAscending ds → item_at ds n ≡ option_and_then left_in (item_at es n)
      → ((k : ℕ) → Apart n k → item_at ds k ≡ item_at es k) → ds ≡ clear_value es n
  cleared_by es ds n s r here apart = same_items ds (clear_value es n) r (ascending_without_values (nat_eq n) es s)
      (λ k. at_each (λ k. item_at ds k ≡ cond (nat_eq n k) (option_and_then left_in (item_at es k)) (item_at es k)) n
      (here ∙ ap (λ b. cond b (option_and_then left_in (item_at es n)) (item_at es n)) (sym (eq-eqb n n refl)))
      (λ k a. apart k a ∙ ap (λ b. cond b (option_and_then left_in (item_at es k)) (item_at es k)) (sym (ne_eqb n k (λ e. differs n k e a)))) k ∙ sym (item_without (nat_eq n) es k s))
    where
      differs : (n k : ℕ) → n ≡ k → Apart n k → ⊥
      differs n k e a = absurd (true≢false (sym (ap is_eq (ap (nat_cmp n) (sym e) ∙ itself n)) ∙ a))

  -- taking a value: a slot removed, one kept as it is, and one left with unknown fields alone
  pub take_removed : (es : List (ℕ × FieldSlot V)) (n : ℕ) (v : V) → IsAscending es → item_at es n ≡ Some (Value v) → without_item es n ≡ clear_value es n
  take_removed es n v s h = cleared_by es (without_item es n) n s (ascending_without es n s) (without_same es n s ∙ ap (option_and_then left_in) (sym h)) (λ k a. without_apart es n k a)

  pub take_missing : (es : List (ℕ × FieldSlot V)) (n : ℕ) → IsAscending es → stored_at es n ≡ None → es ≡ clear_value es n
  take_missing es n s h = cleared_by es es n s s (cases (item_at es n) h) (λ k a. refl)
    where
      cases : (o : Option (FieldSlot V)) → option_and_then value_in o ≡ None → o ≡ option_and_then left_in o
      cases None h = refl
      cases (Some (Value v)) h = cc
      cases (Some (Unknown u)) h = refl
      cases (Some (Both v u)) h = cc

  pub take_found : (es : List (ℕ × FieldSlot V)) (n : ℕ) (e b : FieldSlot V) (v : V) (u : UnknownFieldSet) → IsAscending es → Some b ≡ item_at es n → b ≡ Both v u → Some e ≡ item_at es n
      → with_item es n (without_value_beside e) ≡ clear_value es n
  take_found es n e b v u s p q r =
      let same : e ≡ Both v u = ap (λ o. unwrap_or o e) (r ∙ sym p) ∙ q in
      let left : option_and_then left_in (item_at es n) ≡ Some (Unknown u) = ap (option_and_then left_in) (sym r ∙ ap Some same) in
      ap (λ x. with_item es n (without_value_beside x)) same
      ∙ cleared_by es (with_item es n (Unknown u)) n s (ascending_with es n (Unknown u) s) (with_same es n (Unknown u) e (sym r) ∙ sym left) (λ k a. with_apart es n k (Unknown u) a)

  -- SETTING

  put_here : (es : List (ℕ × FieldSlot V)) (n : ℕ) (v : V) → (stored_at (put_value es n v) n ≡ Some v) × (records_at (put_value es n v) n ≡ records_at es n)
  put_here es n v = cases (item_at es n) refl
    where
      value_added : (e : FieldSlot V) → value_in (with_value_in e v) ≡ Some v
      value_added (Value x) = refl
      value_added (Unknown u) = refl
      value_added (Both x u) = refl

      records_stay : (e : FieldSlot V) → records_in (with_value_in e v) ≡ records_in e
      records_stay (Value x) = refl
      records_stay (Unknown u) = refl
      records_stay (Both x u) = refl

      cases : (o : Option (FieldSlot V)) → item_at es n ≡ o → (stored_at (put_slot es n v o) n ≡ Some v) × (records_at (put_slot es n v o) n ≡ option_and_then records_in o)
      cases None h = (ap (option_and_then value_in) (put_same es n (Value v)), ap (option_and_then records_in) (put_same es n (Value v)))
      cases (Some e) h = (
        ap (option_and_then value_in) (with_same es n (with_value_in e v) e h) ∙ value_added e,
        ap (option_and_then records_in) (with_same es n (with_value_in e v) e h) ∙ records_stay e,
      )

  put_elsewhere : (es : List (ℕ × FieldSlot V)) (n k : ℕ) (v : V) → Apart n k → item_at (put_value es n v) k ≡ item_at es k
  put_elsewhere es n k v a = cases (item_at es n)
    where
      cases : (o : Option (FieldSlot V)) → item_at (put_slot es n v o) k ≡ item_at es k
      cases None = put_apart es n k (Value v) (apart_back n k a)
      cases (Some e) = with_apart es n k (with_value_in e v) a

  pub ascending_put : (es : List (ℕ × FieldSlot V)) (n : ℕ) (v : V) → IsAscending es → IsAscending (put_value es n v)
  ascending_put es n v s = cases (item_at es n)
    where
      cases : (o : Option (FieldSlot V)) → IsAscending (put_slot es n v o)
      cases None = ascending_put_item es n (Value v) s
      cases (Some e) = ascending_with es n (with_value_in e v) s

  pub value_put : (es : List (ℕ × FieldSlot V)) (n : ℕ) (v : V) → stored_at (put_value es n v) n ≡ Some v
  value_put es n v = (put_here es n v).0

  pub value_put_apart : (es : List (ℕ × FieldSlot V)) (n k : ℕ) (v : V) → Apart n k → stored_at (put_value es n v) k ≡ stored_at es k
  value_put_apart es n k v a = same_values es (put_value es n v) k (put_elsewhere es n k v a)

  pub records_put : (es : List (ℕ × FieldSlot V)) (n : ℕ) (v : V) (k : ℕ) → records_at (put_value es n v) k ≡ records_at es k
  records_put es n v = at_each (λ k. records_at (put_value es n v) k ≡ records_at es k) n (put_here es n v).1 (λ k a. same_records es (put_value es n v) k (put_elsewhere es n k v a))

  -- WRITING WHAT WAS LENT

  pub value_kept : (e : FieldSlot V) (w : V) → is_some (value_in (revalued e w)) ≡ is_some (value_in e)
  value_kept (Value v) w = refl
  value_kept (Unknown u) w = refl
  value_kept (Both v u) w = refl

  pub records_kept : (e : FieldSlot V) (w : V) → records_in (revalued e w) ≡ records_in e
  records_kept (Value v) w = refl
  records_kept (Unknown u) w = refl
  records_kept (Both v u) w = refl

  pub ascending_with_value : (es : List (ℕ × FieldSlot V)) (n : ℕ) (w : V) → IsAscending es → IsAscending (with_value es n w)
  ascending_with_value es n w s = cases (item_at es n)
    where
      cases : (o : Option (FieldSlot V)) → IsAscending (with_slot es n w o)
      cases None = s
      cases (Some e) = ascending_with es n (revalued e w) s

  written_here : (es : List (ℕ × FieldSlot V)) (n : ℕ) (w : V) → (stored_at (with_value es n w) n ≡ option_map (λ _. w) (stored_at es n)) × (records_at (with_value es n w) n ≡ records_at es n)
  written_here es n w = cases (item_at es n) refl
    where
      value : (e : FieldSlot V) → value_in (revalued e w) ≡ option_map (λ _. w) (value_in e)
      value (Value v) = refl
      value (Unknown u) = refl
      value (Both v u) = refl

      cases : (o : Option (FieldSlot V)) → item_at es n ≡ o → (stored_at (with_slot es n w o) n ≡ option_map (λ _. w) (option_and_then value_in o)) × (records_at (with_slot es n w o) n ≡ option_and_then records_in o)
      cases None h = (ap (option_and_then value_in) h, ap (option_and_then records_in) h)
      cases (Some e) h = (ap (option_and_then value_in) (with_same es n (revalued e w) e h) ∙ value e, ap (option_and_then records_in) (with_same es n (revalued e w) e h) ∙ records_kept e w)

  written_apart : (es : List (ℕ × FieldSlot V)) (n k : ℕ) (w : V) → Apart n k → item_at (with_value es n w) k ≡ item_at es k
  written_apart es n k w a = cases (item_at es n)
    where
      cases : (o : Option (FieldSlot V)) → item_at (with_slot es n w o) k ≡ item_at es k
      cases None = refl
      cases (Some e) = with_apart es n k (revalued e w) a

  pub value_written : (es : List (ℕ × FieldSlot V)) (n : ℕ) (w : V) → stored_at (with_value es n w) n ≡ option_map (λ _. w) (stored_at es n)
  value_written es n w = (written_here es n w).0

  pub value_written_apart : (es : List (ℕ × FieldSlot V)) (n k : ℕ) (w : V) → Apart n k → stored_at (with_value es n w) k ≡ stored_at es k
  value_written_apart es n k w a = same_values es (with_value es n w) k (written_apart es n k w a)

  pub records_written : (es : List (ℕ × FieldSlot V)) (n : ℕ) (w : V) (k : ℕ) → records_at (with_value es n w) k ≡ records_at es k
  records_written es n w = at_each (λ k. records_at (with_value es n w) k ≡ records_at es k) n (written_here es n w).1 (λ k a. same_records es (with_value es n w) k (written_apart es n k w a))

  -- UNKNOWN RECORDS

  pub added_beside : (es : List (ℕ × FieldSlot V)) (n : ℕ) (e d : FieldSlot V) (r : Record) → item_at es n ≡ Some e → r.number ≡ n → AddedIn e d r → UnknownAdded es (with_item es n d) r
  added_beside es n e d r h own added =
      let there : item_at (with_item es n d) n ≡ Some d = with_same es n d e h in
      let here : records_at (with_item es n d) n ≡ Some (unwrap_or (records_at es n) [] ++ r ∷ []) =
      ap (option_and_then records_in) there ∙ added.records ∙ ap (λ o. Some (unwrap_or (option_and_then records_in o) [] ++ r ∷ [])) (sym h) in
      record {
        values = at_each (λ k. stored_at (with_item es n d) k ≡ stored_at es k) n (ap (option_and_then value_in) there ∙ added.value ∙ ap (option_and_then value_in) (sym h))
            (λ k a. same_values es (with_item es n d) k (with_apart es n k d a));
        here = subst (λ z. records_at (with_item es n d) z ≡ Some (unwrap_or (records_at es z) [] ++ r ∷ [])) (sym own) here;
        elsewhere = λ k other. same_records es (with_item es n d) k (with_apart es n k d (apart_of n k (λ e. other (e ∙ sym own))));
        order = ascending_with es n d;
      }

  pub added_first : (es : List (ℕ × FieldSlot V)) (n : ℕ) (u : UnknownFieldSet) (r : Record) → item_at es n ≡ None → r.number ≡ n → records_of u ≡ r ∷ [] → UnknownAdded es (put_item es n (Unknown u)) r
  added_first es n u r h own is =
      let there : item_at (put_item es n (Unknown u)) n ≡ Some (Unknown u) = put_same es n (Unknown u) in
      let here : records_at (put_item es n (Unknown u)) n ≡ Some (unwrap_or (records_at es n) [] ++ r ∷ []) =
      ap (option_and_then records_in) there ∙ ap Some is ∙ ap (λ o. Some (unwrap_or (option_and_then records_in o) [] ++ r ∷ [])) (sym h) in
      record {
        values = at_each (λ k. stored_at (put_item es n (Unknown u)) k ≡ stored_at es k) n (ap (option_and_then value_in) there ∙ ap (option_and_then value_in) (sym h))
            (λ k a. same_values es (put_item es n (Unknown u)) k (put_apart es n k (Unknown u) (apart_back n k a)));
        here = subst (λ z. records_at (put_item es n (Unknown u)) z ≡ Some (unwrap_or (records_at es z) [] ++ r ∷ [])) (sym own) here;
        elsewhere = λ k other. same_records es (put_item es n (Unknown u)) k (put_apart es n k (Unknown u) (apart_back n k (apart_of n k (λ e. other (e ∙ sym own)))));
        order = ascending_put_item es n (Unknown u);
      }

  pub same_beside : (es : List (ℕ × FieldSlot V)) (n : ℕ) (e d : FieldSlot V) → item_at es n ≡ Some e → SameIn e d → SameStored es (with_item es n d)
  same_beside es n e d h same =
      let there : item_at (with_item es n d) n ≡ Some d = with_same es n d e h in
      record {
        values = at_each (λ k. stored_at (with_item es n d) k ≡ stored_at es k) n (ap (option_and_then value_in) there ∙ same.value ∙ ap (option_and_then value_in) (sym h))
            (λ k a. same_values es (with_item es n d) k (with_apart es n k d a));
        records = at_each (λ k. records_at (with_item es n d) k ≡ records_at es k) n (ap (option_and_then records_in) there ∙ same.records ∙ ap (option_and_then records_in) (sym h))
            (λ k a. same_records es (with_item es n d) k (with_apart es n k d a));
        order = ascending_with es n d;
      }
