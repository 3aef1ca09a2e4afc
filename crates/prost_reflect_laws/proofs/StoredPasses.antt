-- Tests of entries, said number by number: a test that looks at each entry by itself holds of all exactly if it holds at each number.
use Rattle.std.specs.Prelude.{◌≡◌, ◌&&◌, ◌∷◌, ◌++◌}
use Rattle.prost_reflect_laws.proofs.Common.{ℕ, Bool, true, false, cond, List, [], nat_eq, Option, Some, None, refl, ap, subst, sym, ◌∙◌, arith, true≢false, ⊤, list_all, eqb-true, eq-eqb, and_parts, and_from, Payload, Field, is_sibling, Entries, NoEntries, Stored, Unknown, Value, Slot, value_at, unknowns_at, slot_at, comes_before, entries_ordered, value_ordered, EntryTest, entries_pass, value_passes, with_value, with_stored, with_unknown, all_append}
use Rattle.prost_reflect_laws.proofs.Rebuilt.{no_value_below}

-- the test of an entry, where it does not look at what stands behind
pub record ByItself (test : EntryTest) (fields : List Field) (own : ℕ → Value → Bool) : Type 0 where
  pub same : (n : ℕ) (v : Value) (es : Entries) → test.stored fields n v es ≡ own n v

module _ (test : EntryTest) (fields : List Field) (own : ℕ → Value → Bool) where
  -- a value passes at a number, and so does all that is in it
  abbrev pub passes_at : ℕ → Value → Bool
  passes_at n v = own n v && value_passes test v

  abbrev pub OptionPasses : ℕ → Option Value → Type 0
  OptionPasses n None = ⊤
  OptionPasses n (Some v) = passes_at n v ≡ true

  abbrev pub unknowns_pass : ℕ → List Payload → Bool
  unknowns_pass n ps = list_all (test.unknown fields n) ps

  -- what stands at a number passes
  pub record SlotPasses (n : ℕ) (slot : Slot) : Type 0 where
    pub value : OptionPasses n slot.value
    pub unknowns : unknowns_pass n slot.unknowns ≡ true

  pub passes_slots : ByItself test fields own → (es : Entries) (n : ℕ) → entries_pass test fields es ≡ true → SlotPasses n (slot_at es n)
  passes_slots by NoEntries n h = record { value = tt; unknowns = refl }
  passes_slots by (Stored m v es) n h =
      let (a, rest) = and_parts (test.stored fields m v es && value_passes test v) (entries_pass test fields es) h in
      let more : SlotPasses n (slot_at es n) = passes_slots by es n rest in
      record { value = go (nat_eq m n) refl (ap (λ b. b && value_passes test v) (sym (by.same m v es)) ∙ a) more.value; unknowns = more.unknowns }
    where
      go : (b : Bool) → nat_eq m n ≡ b → passes_at m v ≡ true → OptionPasses n (value_at n es) → OptionPasses n (cond b (Some v) (value_at n es))
      go true e a more = ap (λ k. passes_at k v) (sym (eqb-true m n e)) ∙ a
      go false e a more = more
  passes_slots by (Unknown m p es) n h =
      let (a, rest) = and_parts (test.unknown fields m p) (entries_pass test fields es) h in
      let more : SlotPasses n (slot_at es n) = passes_slots by es n rest in
      record { value = more.value; unknowns = go (nat_eq m n) refl a more.unknowns }
    where
      go : (b : Bool) → nat_eq m n ≡ b → test.unknown fields m p ≡ true → unknowns_pass n (unknowns_at n es) ≡ true → unknowns_pass n (cond b (p ∷ unknowns_at n es) (unknowns_at n es)) ≡ true
      go true e a more = and_from _ _ (ap (λ k. test.unknown fields k p) (sym (eqb-true m n e)) ∙ a) more
      go false e a more = more

  pub slots_pass : ByItself test fields own → (es : Entries) → entries_ordered es ≡ true → ((n : ℕ) → SlotPasses n (slot_at es n)) → entries_pass test fields es ≡ true
  slots_pass by NoEntries o h = refl
  slots_pass by (Stored m v es) o h =
      let (a, rest) = and_parts (comes_before m es && value_ordered v) (entries_ordered es) o in
      let none : value_at m es ≡ None = no_value_below m m es (and_parts (comes_before m es) (value_ordered v) a).0 rest (omega arith) in
      and_from _ _ (ap (λ b. b && value_passes test v) (by.same m v es) ∙ here (nat_eq m m) (eq-eqb m m refl) (let s : SlotPasses m (slot_at (Stored m v es) m) = h m in s.value))
      (slots_pass by es rest (λ n. let s : SlotPasses n (slot_at (Stored m v es) n) = h n in record { value = other n (nat_eq m n) refl none s.value; unknowns = s.unknowns }))
    where
      here : (b : Bool) → b ≡ true → OptionPasses m (cond b (Some v) (value_at m es)) → passes_at m v ≡ true
      here true e s = s
      here false e s = absurd (true≢false (sym e))

      other : (n : ℕ) (b : Bool) → nat_eq m n ≡ b → value_at m es ≡ None → OptionPasses n (cond b (Some v) (value_at n es)) → OptionPasses n (value_at n es)
      other n true e none s = subst (OptionPasses n) (sym none ∙ ap (λ k. value_at k es) (eqb-true m n e)) tt
      other n false e none s = s
  slots_pass by (Unknown m p es) o h =
      let (a, rest) = and_parts (comes_before m es) (entries_ordered es) o in
      and_from _ _ (here (nat_eq m m) (eq-eqb m m refl) (let s : SlotPasses m (slot_at (Unknown m p es) m) = h m in s.unknowns))
      (slots_pass by es rest (λ n. let s : SlotPasses n (slot_at (Unknown m p es) n) = h n in record { value = s.value; unknowns = other n (nat_eq m n) s.unknowns }))
    where
      here : (b : Bool) → b ≡ true → unknowns_pass m (cond b (p ∷ unknowns_at m es) (unknowns_at m es)) ≡ true → test.unknown fields m p ≡ true
      here true e s = (and_parts (test.unknown fields m p) _ s).0
      here false e s = absurd (true≢false (sym e))

      other : (n : ℕ) (b : Bool) → unknowns_pass n (cond b (p ∷ unknowns_at n es) (unknowns_at n es)) ≡ true → unknowns_pass n (unknowns_at n es) ≡ true
      other n true s = (and_parts (test.unknown fields n p) _ s).1
      other n false s = s

  -- CHANGES

  pub stored_passes : (f : Field) (v : Value) (m : ℕ) (slot : Slot) → passes_at f.number v ≡ true → SlotPasses m slot → SlotPasses m (with_stored fields f v m slot)
  stored_passes f v m slot passes s = go (nat_eq m f.number) refl (is_sibling fields f m)
    where
      go : (b : Bool) → nat_eq m f.number ≡ b → (c : Bool) → SlotPasses m (cond b (with_value (Some v) slot) (cond c (with_value None slot) slot))
      go true e c = record { value = ap (λ k. passes_at k v) (eqb-true m f.number e) ∙ passes; unknowns = s.unknowns }
      go false e true = record { value = tt; unknowns = s.unknowns }
      go false e false = s

  pub unknown_passes : (n : ℕ) (p : Payload) (m : ℕ) (slot : Slot) → test.unknown fields n p ≡ true → SlotPasses m slot → SlotPasses m (with_unknown n p m slot)
  unknown_passes n p m slot passes s = go (nat_eq m n) refl
    where
      go : (b : Bool) → nat_eq m n ≡ b → SlotPasses m (cond b (record { value = slot.value; unknowns = slot.unknowns ++ (p ∷ []) }) slot)
      go true e = record { value = s.value; unknowns = all_append (test.unknown fields m) slot.unknowns (p ∷ []) s.unknowns (and_from _ _ (ap (λ k. test.unknown fields k p) (eqb-true m n e) ∙ passes) refl) }
      go false e = s

  -- whole entries
  pub entries_stored_pass : ByItself test fields own → (es ds : Entries) (f : Field) (v : Value) → passes_at f.number v ≡ true → entries_ordered ds ≡ true → ((m : ℕ) → slot_at ds m ≡ with_stored fields f v m (slot_at es m)) →
      entries_pass test fields es ≡ true → entries_pass test fields ds ≡ true
  entries_stored_pass by es ds f v passes o slots h = slots_pass by ds o (λ m. subst (SlotPasses m) (sym (slots m)) (stored_passes f v m (slot_at es m) passes (passes_slots by es m h)))

  pub entries_unknown_pass : ByItself test fields own → (es ds : Entries) (n : ℕ) (p : Payload) → test.unknown fields n p ≡ true → entries_ordered ds ≡ true → ((m : ℕ) → slot_at ds m ≡ with_unknown n p m (slot_at es m)) →
      entries_pass test fields es ≡ true → entries_pass test fields ds ≡ true
  entries_unknown_pass by es ds n p passes o slots h = slots_pass by ds o (λ m. subst (SlotPasses m) (sym (slots m)) (unknown_passes n p m (slot_at es m) passes (passes_slots by es m h)))
