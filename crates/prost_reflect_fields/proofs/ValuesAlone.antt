-- What stands at each number once the unknown fields are taken.
use Rattle.std.specs.Prelude.{◌≡◌, ◌++◌, ◌∷◌}
use Rattle.prost_reflect_fields.proofs.Common.{cond, ℕ, List, [], Option, None, Some, ap, sym, ◌∙◌, subst, refl, option_and_then, option_map, option_to_list, is_some, nat_cmp, is_eq, Less, AllByRecursion, IsStrictlySortedBy, keys_of, Field, FieldSlot, Value, Unknown, Both, IsAscending, item_at, value_in, records_in, stored_at, records_at, values_alone, Sound, unknown_kept}
use Rattle.prost_reflect_maps.proofs.ItemChanges.{Apart, by_number, itself, none_above}

module _ {V : Type 0} where
  -- a value in front of what stands behind it
  abbrev in_front : ℕ → Option V → List (ℕ × FieldSlot V) → List (ℕ × FieldSlot V)
  in_front n o rest = option_to_list (option_map (λ v. (n, Value v)) o) ++ rest

  abbrev alone : FieldSlot V → Option (FieldSlot V)
  alone e = option_map Value (value_in e)

  all_alone : (P : ℕ → Type 0) (es : List (ℕ × FieldSlot V)) → AllByRecursion P (keys_of es) → AllByRecursion P (keys_of (values_alone es))
  all_alone P [] a = a
  all_alone P (e ∷ es) a = cases (value_in e.1) (all_alone P es a.1)
    where
      cases : (o : Option V) → AllByRecursion P (keys_of (values_alone es)) → AllByRecursion P (keys_of (in_front e.0 o (values_alone es)))
      cases None rest = rest
      cases (Some v) rest = (a.0, rest)

  pub ascending_alone : (es : List (ℕ × FieldSlot V)) → IsAscending es → IsAscending (values_alone es)
  unfolding IsStrictlySortedBy
  ascending_alone [] s = s
  ascending_alone (e ∷ es) s = cases (value_in e.1) (ascending_alone es s.1)
    where
      cases : (o : Option V) → IsAscending (values_alone es) → IsAscending (in_front e.0 o (values_alone es))
      cases None rest = rest
      cases (Some v) rest = (all_alone (λ y. nat_cmp e.0 y ≡ Less) es s.0, rest)

  item_alone : (es : List (ℕ × FieldSlot V)) (k : ℕ) → IsAscending es → item_at (values_alone es) k ≡ option_and_then alone (item_at es k)
  unfolding IsStrictlySortedBy
  item_alone [] k s = refl
  item_alone (e ∷ es) k s = by_number k e.0
      (λ is. here (value_in e.1) is ∙ sym (ap (option_and_then alone) (found is)))
      (λ apart. there (value_in e.1) apart ∙ item_alone es k s.1 ∙ ap (λ b. option_and_then alone (cond b (Some e.1) (item_at es k))) (sym apart))
    where
      there : (o : Option V) → Apart k e.0 → item_at (in_front e.0 o (values_alone es)) k ≡ item_at (values_alone es) k
      there None apart = refl
      there (Some v) apart = ap (λ b. cond b (Some (Value v)) (item_at (values_alone es) k)) apart

      none_behind : k ≡ e.0 → item_at (values_alone es) k ≡ None
      none_behind is = none_above k (values_alone es) (subst (λ z. AllByRecursion (λ y. nat_cmp z y ≡ Less) (keys_of (values_alone es))) (sym is) (all_alone (λ y. nat_cmp e.0 y ≡ Less) es s.0))

      here : (o : Option V) → k ≡ e.0 → item_at (in_front e.0 o (values_alone es)) k ≡ option_map Value o
      here None is = none_behind is
      here (Some v) is = ap (λ b. cond b (Some (Value v)) (item_at (values_alone es) k)) (ap is_eq (ap (nat_cmp k) (sym is) ∙ itself k))

      found : k ≡ e.0 → item_at (e ∷ es) k ≡ Some e.1
      found is = ap (λ b. cond b (Some e.1) (item_at es k)) (ap is_eq (ap (nat_cmp k) (sym is) ∙ itself k))

  pub value_stays : (es : List (ℕ × FieldSlot V)) (k : ℕ) → IsAscending es → stored_at (values_alone es) k ≡ stored_at es k
  value_stays es k s = ap (option_and_then value_in) (item_alone es k s) ∙ cases (item_at es k)
    where
      cases : (o : Option (FieldSlot V)) → option_and_then value_in (option_and_then alone o) ≡ option_and_then value_in o
      cases None = refl
      cases (Some (Value v)) = refl
      cases (Some (Unknown u)) = refl
      cases (Some (Both v u)) = refl

  no_records : (es : List (ℕ × FieldSlot V)) (k : ℕ) → IsAscending es → records_at (values_alone es) k ≡ None
  no_records es k s = ap (option_and_then records_in) (item_alone es k s) ∙ cases (item_at es k)
    where
      cases : (o : Option (FieldSlot V)) → option_and_then records_in (option_and_then alone o) ≡ None
      cases None = refl
      cases (Some (Value v)) = refl
      cases (Some (Unknown u)) = refl
      cases (Some (Both v u)) = refl

  pub sound_alone : (fields : List Field) (es : List (ℕ × FieldSlot V)) → IsAscending es → Sound fields es → Sound fields (values_alone es)
  sound_alone fields es s sound = (
    λ n has. sound.0 n (ap is_some (sym (value_stays es n s)) ∙ has),
    λ n. ap (unknown_kept fields n) (no_records es n s),
    λ m n has siblings. ap is_some (value_stays es n s) ∙ sound.2 m n (ap is_some (sym (value_stays es m s)) ∙ has) siblings,
  )
