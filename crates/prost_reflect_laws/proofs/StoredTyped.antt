-- Typed entries, said number by number.
use Rattle.std.specs.Prelude.{◌≡◌, ◌&&◌, ◌∷◌, ◌++◌}
use Rattle.prost_reflect_laws.proofs.Common.{ℕ, Bool, true, false, cond, List, [], nat_eq, Option, Some, None, refl, ap, subst, sym, ◌∙◌, arith, true≢false, ⊤, eqb-true, eq-eqb, and_parts, Payload, Field, Schema, field_of, is_sibling, Entries, NoEntries, Stored, Unknown, Value, Slot, value_at, unknowns_at, slot_at, comes_before, entries_ordered, value_ordered, EntriesTyped, ValueTyped, kind_for, with_value, with_stored, with_unknown}
use Rattle.prost_reflect_laws.proofs.Rebuilt.{no_value_below}

abbrev pub OptionTyped : Schema → List Field → ℕ → Option Value → Type 0
OptionTyped schema fields n None = ⊤
OptionTyped schema fields n (Some v) = ValueTyped schema (kind_for (field_of fields n) v) v

module _ (schema : Schema) (fields : List Field) where
  pub typed_values : (es : Entries) (n : ℕ) → EntriesTyped schema fields es → OptionTyped schema fields n (value_at n es)
  typed_values NoEntries n h = tt
  typed_values (Stored m v es) n (h, rest) = go (nat_eq m n) refl (typed_values es n rest)
    where
      go : (b : Bool) → nat_eq m n ≡ b → OptionTyped schema fields n (value_at n es) → OptionTyped schema fields n (cond b (Some v) (value_at n es))
      go true e more = subst (λ k. ValueTyped schema (kind_for (field_of fields k) v) v) (eqb-true m n e) h
      go false e more = more
  typed_values (Unknown m p es) n h = typed_values es n h

  pub values_typed : (es : Entries) → entries_ordered es ≡ true → ((n : ℕ) → OptionTyped schema fields n (value_at n es)) → EntriesTyped schema fields es
  values_typed NoEntries o h = tt
  values_typed (Stored m v es) o h =
      let (a, rest) = and_parts (comes_before m es && value_ordered v) (entries_ordered es) o in
      let none : value_at m es ≡ None = no_value_below m m es (and_parts (comes_before m es) (value_ordered v) a).0 rest (omega arith) in
      (here (nat_eq m m) (eq-eqb m m refl) (h m), values_typed es rest (λ n. other n (nat_eq m n) refl none (h n)))
    where
      here : (b : Bool) → b ≡ true → OptionTyped schema fields m (cond b (Some v) (value_at m es)) → ValueTyped schema (kind_for (field_of fields m) v) v
      here true e s = s
      here false e s = absurd (true≢false (sym e))

      other : (n : ℕ) (b : Bool) → nat_eq m n ≡ b → value_at m es ≡ None → OptionTyped schema fields n (cond b (Some v) (value_at n es)) → OptionTyped schema fields n (value_at n es)
      other n true e none s = subst (OptionTyped schema fields n) (sym none ∙ ap (λ k. value_at k es) (eqb-true m n e)) tt
      other n false e none s = s
  values_typed (Unknown m p es) o h = values_typed es (and_parts (comes_before m es) (entries_ordered es) o).1 h

  -- a value of the field's types
  pub value_stored_typed : (es ds : Entries) (f : Field) (v : Value) → field_of fields f.number ≡ Some f → ValueTyped schema (kind_for (Some f) v) v → entries_ordered ds ≡ true → ((m : ℕ) → slot_at ds m ≡ with_stored fields f v m (slot_at es m)) →
      EntriesTyped schema fields es → EntriesTyped schema fields ds
  value_stored_typed es ds f v found typed o slots h =
      values_typed ds o (λ m. subst (λ (s : Slot). OptionTyped schema fields m s.value) (sym (slots m)) (go m (nat_eq m f.number) refl (is_sibling fields f m) (typed_values es m h)))
    where
      go : (m : ℕ) (b : Bool) → nat_eq m f.number ≡ b → (c : Bool) → OptionTyped schema fields m (value_at m es) → OptionTyped schema fields m (cond b (with_value (Some v) (slot_at es m)) (cond c (with_value None (slot_at es m)) (slot_at es m))).value
      go m true e c s = subst (λ (o : Option Field). ValueTyped schema (kind_for o v) v) (sym (ap (field_of fields) (eqb-true m f.number e) ∙ found)) typed
      go m false e true s = tt
      go m false e false s = s

  pub unknown_stored_typed : (es ds : Entries) (n : ℕ) (p : Payload) → entries_ordered ds ≡ true → ((m : ℕ) → slot_at ds m ≡ with_unknown n p m (slot_at es m)) → EntriesTyped schema fields es → EntriesTyped schema fields ds
  unknown_stored_typed es ds n p o slots h = values_typed ds o (λ m. subst (λ (s : Slot). OptionTyped schema fields m s.value) (sym (slots m)) (go m (nat_eq m n) (typed_values es m h)))
    where
      go : (m : ℕ) (b : Bool) → OptionTyped schema fields m (value_at m es) → OptionTyped schema fields m (cond b (record { value = value_at m es; unknowns = unknowns_at m es ++ (p ∷ []) }) (slot_at es m)).value
      go m true s = s
      go m false s = s
