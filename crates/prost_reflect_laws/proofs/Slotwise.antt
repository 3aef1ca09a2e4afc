-- Entries said number by number: what stands at each number decides them.
use Rattle.std.specs.Prelude.{◌≡◌, ◌+◌, ◌&&◌, ◌∷◌}
use Rattle.prost_reflect_laws.proofs.Common.{ℕ, Bool, true, false, cond, List, length, nat_eq, Option, Some, None, refl, ap, sym, ◌∙◌, arith, eqb-true, eq-eqb, and_parts, or_parts, ◌>>=◌, Field, field_of, Entries, NoEntries, Stored, Unknown, Value, Slot, value_at, unknowns_at, slot_at, then_value, insert_number, numbers_in, changed, comes_before, entries_ordered, value_ordered, kept_entries, kept_value, kept_inside, empty_slot, is_in, in_insert, eqb-sym, insert_ascending, Covers, table_covers, table_same, slot_table, slots_same, entries_ascending, slot_outside}
use Rattle.prost_reflect_laws.proofs.Rebuilt.{rebuilt, no_value_below}

-- ordered entries with the same slots are the same
pub entries_same : (es ds : Entries) → entries_ordered es ≡ true → entries_ordered ds ≡ true → ((n : ℕ) → slot_at es n ≡ slot_at ds n) → es ≡ ds
entries_same es ds o q h =
    sym (rebuilt es o)
    ∙ table_covers (slot_at es) (length (numbers_in es) + length (numbers_in ds)) 0 (numbers_in es) (numbers_in ds) (omega arith) (entries_ascending es) (entries_ascending ds)
    (λ k l out. slot_outside es k out) (λ k l out. h k ∙ slot_outside ds k out)
    ∙ table_same (slot_at es) (slot_at ds) (numbers_in ds) h
    ∙ rebuilt ds q

-- a change that leaves other empty slots empty is seen at each number
pub slot_changed : (n m : ℕ) (change : ℕ → Slot → Slot) (es : Entries) → ((k : ℕ) → nat_eq n k ≡ false → change k empty_slot ≡ empty_slot) → slot_at (changed n change es) m ≡ change m (slot_at es m)
slot_changed n m change es h = slot_table (λ k. change k (slot_at es k)) m (insert_number n (numbers_in es)) (insert_ascending n 0 (numbers_in es) (entries_ascending es) (omega arith)) covers
  where
    covers : Covers (λ k. change k (slot_at es k)) 0 (insert_number n (numbers_in es))
    covers k l out =
        let (other, rest) = or_parts (nat_eq k n) (is_in k (numbers_in es)) (sym (in_insert k n (numbers_in es)) ∙ out) in
        ap (change k) (slot_outside es k rest) ∙ h k (eqb-sym n k ∙ other)

-- WHAT IS KEPT

-- a slot without a default that has no presence
abbrev pub kept_slot : List Field → ℕ → Slot → Slot
kept_slot fields n slot = record { value = slot.value >>= λ v. kept_value (field_of fields n) (kept_inside v); unknowns = slot.unknowns }

unknowns_kept : (fields : List Field) (n : ℕ) (es : Entries) → unknowns_at n (kept_entries fields es) ≡ unknowns_at n es
unknowns_kept fields n NoEntries = refl
unknowns_kept fields n (Stored m v es) = go (kept_value (field_of fields m) (kept_inside v)) ∙ unknowns_kept fields n es
  where
    go : (o : Option Value) → unknowns_at n (then_value m o (kept_entries fields es)) ≡ unknowns_at n (kept_entries fields es)
    go None = refl
    go (Some w) = refl
unknowns_kept fields n (Unknown m p es) = ap (λ ps. cond (nat_eq m n) (p ∷ ps) ps) (unknowns_kept fields n es)

value_kept : (fields : List Field) (n : ℕ) (es : Entries) → entries_ordered es ≡ true → value_at n (kept_entries fields es) ≡ (value_at n es >>= λ v. kept_value (field_of fields n) (kept_inside v))
value_kept fields n NoEntries o = refl
value_kept fields n (Stored m v es) o =
    let (a, rest) = and_parts (comes_before m es && value_ordered v) (entries_ordered es) o in
    go (nat_eq m n) refl (and_parts (comes_before m es) (value_ordered v) a).0 rest (value_kept fields n es rest)
  where
    here : (k : ℕ) → m ≡ k → (o : Option Value) → value_at k (kept_entries fields es) ≡ None → value_at k (then_value m o (kept_entries fields es)) ≡ o
    here k e None h = h
    here k e (Some w) h = ap (λ b. cond b (Some w) (value_at k (kept_entries fields es))) (eq-eqb m k e)

    other : (o : Option Value) → nat_eq m n ≡ false → value_at n (then_value m o (kept_entries fields es)) ≡ value_at n (kept_entries fields es)
    other None e = refl
    other (Some w) e = ap (λ b. cond b (Some w) (value_at n (kept_entries fields es))) e

    go : (b : Bool) → nat_eq m n ≡ b → comes_before m es ≡ true → entries_ordered es ≡ true → value_at n (kept_entries fields es) ≡ (value_at n es >>= λ v. kept_value (field_of fields n) (kept_inside v)) →
        value_at n (then_value m (kept_value (field_of fields m) (kept_inside v)) (kept_entries fields es)) ≡ (cond (nat_eq m n) (Some v) (value_at n es) >>= λ v. kept_value (field_of fields n) (kept_inside v))
    go true e c rest more =
        let same : m ≡ n = eqb-true m n e in
        here n same (kept_value (field_of fields m) (kept_inside v)) (more ∙ ap (λ (o : Option Value). o >>= λ v. kept_value (field_of fields n) (kept_inside v)) (no_value_below m n es c rest (omega (arith, same))))
        ∙ ap (λ (k : ℕ). kept_value (field_of fields k) (kept_inside v)) same
        ∙ sym (ap (λ b. cond b (Some v) (value_at n es) >>= λ v. kept_value (field_of fields n) (kept_inside v)) e)
    go false e c rest more =
        other (kept_value (field_of fields m) (kept_inside v)) e ∙ more
        ∙ sym (ap (λ b. cond b (Some v) (value_at n es) >>= λ v. kept_value (field_of fields n) (kept_inside v)) e)
value_kept fields n (Unknown m p es) o = value_kept fields n es (and_parts (comes_before m es) (entries_ordered es) o).1

pub slot_kept : (fields : List Field) (n : ℕ) (es : Entries) → entries_ordered es ≡ true → slot_at (kept_entries fields es) n ≡ kept_slot fields n (slot_at es n)
slot_kept fields n es o = slots_same (slot_at (kept_entries fields es) n) (kept_slot fields n (slot_at es n)) (value_kept fields n es o) (unknowns_kept fields n es)
