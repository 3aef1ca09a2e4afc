-- What a record of a scalar field, or an unknown record, makes of what is kept: the step of the meaning.
use Rattle.std.specs.Prelude.{◌≡◌, ◌&&◌, ◌||◌, ◌∷◌, ◌++◌}
use Rattle.prost_reflect_laws.proofs.Common.{ℕ, Bool, true, false, cond, List, [], nat_eq, Option, Some, None, refl, ap, sym, ◌∙◌, arith, append-nil, map, subst, eqb-true, eq-eqb, and_parts, ◌>>=◌, Record, Payload, Scalar, ScalarKind, elem, is_undeclared, ScalarOf, Singular, Field, Schema, known, field_of, is_sibling, is_singular, ContentOf, Entries, NoEntries, Stored, Unknown, Value, ScalarValue, Slot, value_at, slot_at, changed, insert_number, numbers_in, comes_before, entries_ordered, value_ordered, value_records, unknown_payloads, is_stray, MeansInside, JoinsInside, present, one_joined, value_joined, value_step, value_behind, slot_step, step_by, record_at, is_default_of, kept, kept_entries, kept_value, kept_inside, is_empty_value, with_value, with_stored, with_unknown, empty_slot, eqb-sym, insert_ascending, entries_ascending, slots_same, field_number, UnknownBack}
use Rattle.prost_reflect_laws.proofs.Values.{value_records_known, unknown_known, one_value_payload, no_stray_payload}
use Rattle.prost_reflect_laws.proofs.Arranged.{OrderedOption, table_ordered}
use Rattle.prost_reflect_laws.proofs.Slotwise.{entries_same, slot_changed, kept_slot, slot_kept}
use Rattle.prost_reflect_laws.proofs.Kept.{entries_kept_ordered}

-- VALUES IN ORDER

-- each value of ordered entries is ordered
pub value_in_order : (n : ℕ) (es : Entries) → entries_ordered es ≡ true → OrderedOption (value_at n es)
value_in_order n NoEntries o = tt
value_in_order n (Stored m v es) o =
    let (a, rest) = and_parts (comes_before m es && value_ordered v) (entries_ordered es) o in
    go (nat_eq m n) (and_parts (comes_before m es) (value_ordered v) a).1 (value_in_order n es rest)
  where
    go : (b : Bool) → value_ordered v ≡ true → OrderedOption (value_at n es) → OrderedOption (cond b (Some v) (value_at n es))
    go true w more = w
    go false w more = more
value_in_order n (Unknown m p es) o = value_in_order n es (and_parts (comes_before m es) (entries_ordered es) o).1

-- ONE RECORD

-- a field whose record is read as the one value
pub record ScalarRecord (fields : List Field) (f : Field) (kind : ScalarKind) (p : Payload) (v : Scalar) : Type 0 where
  pub found : field_of fields f.number ≡ Some f
  pub form : f.form ≡ Singular
  pub kind_is : f.value_type.kind ≡ ScalarOf kind
  pub declared : is_undeclared kind p ≡ false
  pub read : elem kind p ≡ Some v

-- the siblings of a field are those that have it as theirs
abbrev pub Mutual : List Field → Field → Type 0
Mutual fields f = (m : ℕ) (g : Field) → field_of fields m ≡ Some g → nat_eq m f.number ≡ false → is_sibling fields g f.number ≡ is_sibling fields f m

-- values stand at known numbers
abbrev pub Known : List Field → Entries → Type 0
Known fields es = (m : ℕ) → field_of fields m ≡ None → value_at m es ≡ None

module _ (inner : MeansInside) (further : JoinsInside) (fields : List Field) where
  scalar_read : (f : Field) (kind : ScalarKind) (p : Payload) (v : Scalar) → ScalarRecord fields f kind p v → value_records fields (record_at f.number p) ≡ record_at f.number p ∷ []
  scalar_read f kind p v r = value_records_known fields f.number f p r.found ∙ ap (map (record_at f.number)) (one_value_payload f p r.form (ap (λ k. is_stray k p) r.kind_is ∙ r.declared))

  scalar_unknowns : (f : Field) (kind : ScalarKind) (p : Payload) (v : Scalar) → ScalarRecord fields f kind p v → unknown_payloads fields (record_at f.number p) ≡ []
  scalar_unknowns f kind p v r = unknown_known fields f.number f p r.found ∙ no_stray_payload f p r.form (ap (λ k. is_stray k p) r.kind_is ∙ r.declared)

  -- the field's own value
  scalar_joined : (f : Field) (kind : ScalarKind) (p : Payload) (v : Scalar) (old : Option Value) → ScalarRecord fields f kind p v → value_joined inner further f.form f.value_type old p ≡ kept_value (Some f) (ScalarValue v)
  scalar_joined f kind p v old r =
      ap (λ form. value_joined inner further form f.value_type old p) r.form
      ∙ ap (λ k. one_joined inner further f.value_type k old p) r.kind_is
      ∙ ap (λ (o : Option Scalar). o >>= present f.value_type) r.read
      ∙ sym (ap (λ form. cond (is_empty_value form (ScalarValue v) || (is_singular form && is_default_of f.value_type (ScalarValue v))) None (Some (ScalarValue v))) r.form)

  -- what is kept of a slot whose value goes, or stays
  pub kept_cleared : (o : Option Field) (b : Bool) (slot : Slot) →
      ((cond b (with_value None slot) slot).value >>= λ v. kept_value o (kept_inside v)) ≡ cond b None (slot.value >>= λ v. kept_value o (kept_inside v))
  kept_cleared o true slot = refl
  kept_cleared o false slot = refl

  pub no_more_unknown : (slot : Slot) (b : Bool) → slot.unknowns ++ cond {A = List Payload} b [] [] ≡ slot.unknowns
  no_more_unknown slot true = append-nil slot.unknowns
  no_more_unknown slot false = append-nil slot.unknowns

  pub none_either : (b : Bool) → cond {A = Option Value} b None None ≡ None
  none_either true = refl
  none_either false = refl

  scalar_value : (f : Field) (kind : ScalarKind) (p : Payload) (v : Scalar) (m : ℕ) (slot : Slot) (b : Bool) (o : Option Field) → ScalarRecord fields f kind p v → Mutual fields f →
      (o ≡ None → slot.value ≡ None) → nat_eq m f.number ≡ b → field_of fields m ≡ o →
      (o >>= λ g. value_step inner further fields g (slot.value >>= λ v. kept_value o (kept_inside v)) (record_at f.number p))
      ≡ ((cond b (with_value (Some (ScalarValue v)) slot) (cond (is_sibling fields f m) (with_value None slot) slot)).value >>= λ v. kept_value o (kept_inside v))
  scalar_value f kind p v m slot true o r fellows known d e =
      let is : o ≡ Some f = sym e ∙ ap (field_of fields) (eqb-true m f.number d) ∙ r.found in
      let old : Option Value = (slot.value >>= λ v. kept_value o (kept_inside v)) in
      ap (λ (o : Option Field). o >>= λ g. value_step inner further fields g old (record_at f.number p)) is
      ∙ ap (λ b. cond b (value_joined inner further f.form f.value_type old p) (cond (is_sibling fields f f.number) None old)) (eq-eqb f.number f.number refl)
      ∙ scalar_joined f kind p v old r
      ∙ sym (ap (λ o. kept_value o (ScalarValue v)) is)
  scalar_value f kind p v m slot false None r fellows known d e =
      sym (kept_cleared None (is_sibling fields f m) slot
      ∙ ap (λ (o : Option Value). cond (is_sibling fields f m) None (o >>= λ v. kept_value None (kept_inside v))) (known refl)
      ∙ none_either (is_sibling fields f m))
  scalar_value f kind p v m slot false (Some g) r fellows known d e =
      let old : Option Value = (slot.value >>= λ v. kept_value (Some g) (kept_inside v)) in
      let apart : nat_eq f.number g.number ≡ false = ap (nat_eq f.number) (field_number fields m g e) ∙ eqb-sym f.number m ∙ d in
      ap (λ b. cond b (value_joined inner further g.form g.value_type old p) (cond (is_sibling fields g f.number) None old)) apart
      ∙ ap (λ b. cond b None old) (fellows m g e d)
      ∙ sym (kept_cleared (Some g) (is_sibling fields f m) slot)

  -- at each number, a scalar's record
  pub scalar_step : (f : Field) (kind : ScalarKind) (p : Payload) (v : Scalar) (m : ℕ) (slot : Slot) → ScalarRecord fields f kind p v → Mutual fields f → (field_of fields m ≡ None → slot.value ≡ None) →
      slot_step inner further fields (record_at f.number p) m (kept_slot fields m slot) ≡ kept_slot fields m (with_stored fields f (ScalarValue v) m slot)
  scalar_step f kind p v m slot r fellows known = slots_same _ _
      (ap (value_behind inner further fields m (kept_slot fields m slot).value) (scalar_read f kind p v r)
      ∙ scalar_value f kind p v m slot (nat_eq m f.number) (field_of fields m) r fellows known refl refl)
      (ap (λ (ps : List Payload). slot.unknowns ++ cond (nat_eq f.number m) ps []) (scalar_unknowns f kind p v r) ∙ no_more_unknown slot (nat_eq f.number m) ∙ sym (unmoved (nat_eq m f.number) (is_sibling fields f m)))
    where
      unmoved : (b c : Bool) → (cond b (with_value (Some (ScalarValue v)) slot) (cond c (with_value None slot) slot)).unknowns ≡ slot.unknowns
      unmoved true c = refl
      unmoved false true = refl
      unmoved false false = refl

  -- at each number, a record that stays unknown
  unknown_value : (o : Option Field) (w : Option Value) → (o ≡ None → w ≡ None) → (o >>= λ g. w >>= λ v. kept_value o (kept_inside v)) ≡ (w >>= λ v. kept_value o (kept_inside v))
  unknown_value None w h = sym (ap (λ (o : Option Value). o >>= λ v. kept_value None (kept_inside v)) (h refl))
  unknown_value (Some g) w h = refl

  pub unknown_step : (n : ℕ) (p : Payload) (m : ℕ) (slot : Slot) → UnknownBack fields n p → (field_of fields m ≡ None → slot.value ≡ None) →
      slot_step inner further fields (record_at n p) m (kept_slot fields m slot) ≡ kept_slot fields m (with_unknown n p m slot)
  unknown_step n p m slot back known = slots_same _ _
      (ap (value_behind inner further fields m (kept_slot fields m slot).value) back.read ∙ unknown_value (field_of fields m) slot.value known ∙ sym (values (nat_eq m n)))
      (ap (λ (ps : List Payload). slot.unknowns ++ cond (nat_eq n m) ps []) back.stays ∙ ap (λ b. slot.unknowns ++ cond b (p ∷ []) []) (eqb-sym n m) ∙ unknowns (nat_eq m n))
    where
      values : (b : Bool) → ((cond b (record { value = slot.value; unknowns = slot.unknowns ++ (p ∷ []) }) slot).value >>= λ v. kept_value (field_of fields m) (kept_inside v)) ≡ (slot.value >>= λ v. kept_value (field_of fields m) (kept_inside v))
      values true = refl
      values false = refl

      unknowns : (b : Bool) → slot.unknowns ++ cond b (p ∷ []) [] ≡ (cond b (record { value = slot.value; unknowns = slot.unknowns ++ (p ∷ []) }) slot).unknowns
      unknowns true = refl
      unknowns false = append-nil slot.unknowns

-- WHOLE CONTENTS

-- where a record's step on what is kept leads, at each number, to what is kept of the new slots, what is kept makes that step
pub kept_step_at : (inner : MeansInside) (further : JoinsInside) (schema : Schema) (T : ℕ) (es ds : Entries) (r : Record) → entries_ordered es ≡ true → entries_ordered ds ≡ true →
    ((m : ℕ) → slot_step inner further (known schema T) r m (kept_slot (known schema T) m (slot_at es m)) ≡ kept_slot (known schema T) m (slot_at ds m)) →
    ((m : ℕ) → nat_eq r.number m ≡ false → slot_step inner further (known schema T) r m empty_slot ≡ empty_slot) →
    step_by inner further (kept (ContentOf schema T es)) r ≡ kept (ContentOf schema T ds)
kept_step_at inner further schema T es ds r o q step unmoved = ap (ContentOf schema T) (entries_same (changed r.number (slot_step inner further fields r) olds) news in_order (entries_kept_ordered fields ds q) same)
  where
    fields : List Field
    fields = known schema T

    olds : Entries
    olds = kept_entries (known schema T) es

    news : Entries
    news = kept_entries (known schema T) ds

    at : (m : ℕ) → slot_step inner further (known schema T) r m (slot_at (kept_entries (known schema T) es) m) ≡ slot_at (kept_entries (known schema T) ds) m
    at m = ap (slot_step inner further (known schema T) r m) (slot_kept (known schema T) m es o) ∙ step m ∙ sym (slot_kept (known schema T) m ds q)

    same : (m : ℕ) → slot_at (changed r.number (slot_step inner further (known schema T) r) (kept_entries (known schema T) es)) m ≡ slot_at (kept_entries (known schema T) ds) m
    same m = slot_changed r.number m (slot_step inner further (known schema T) r) (kept_entries (known schema T) es) unmoved ∙ at m

    in_order : entries_ordered (changed r.number (slot_step inner further (known schema T) r) (kept_entries (known schema T) es)) ≡ true
    in_order = table_ordered (λ m. slot_step inner further (known schema T) r m (slot_at (kept_entries (known schema T) es) m)) 0 (insert_number r.number (numbers_in (kept_entries (known schema T) es)))
        (insert_ascending r.number 0 (numbers_in (kept_entries (known schema T) es)) (entries_ascending (kept_entries (known schema T) es)) (omega arith))
        (λ m. subst (λ (s : Slot). OrderedOption s.value) (sym (at m)) (value_in_order m (kept_entries (known schema T) ds) (entries_kept_ordered (known schema T) ds q)))

-- the same by a change of any slot
pub kept_step : (inner : MeansInside) (further : JoinsInside) (schema : Schema) (T : ℕ) (es ds : Entries) (r : Record) (change : ℕ → Slot → Slot) → entries_ordered es ≡ true → entries_ordered ds ≡ true →
    ((m : ℕ) → slot_at ds m ≡ change m (slot_at es m)) →
    ((m : ℕ) (slot : Slot) → (field_of (known schema T) m ≡ None → slot.value ≡ None) → slot_step inner further (known schema T) r m (kept_slot (known schema T) m slot) ≡ kept_slot (known schema T) m (change m slot)) →
    ((m : ℕ) → nat_eq r.number m ≡ false → change m empty_slot ≡ empty_slot) →
    Known (known schema T) es → step_by inner further (kept (ContentOf schema T es)) r ≡ kept (ContentOf schema T ds)
kept_step inner further schema T es ds r change o q slots step still values = kept_step_at inner further schema T es ds r o q
    (λ m. step m (slot_at es m) (values m) ∙ ap (kept_slot (known schema T) m) (sym (slots m)))
    (λ m apart. step m empty_slot (λ none. refl) ∙ ap (kept_slot (known schema T) m) (still m apart))
