-- A record of a field, read into a content that holds: its payload joins the value that is there, and what comes of it is stored.
use Rattle.std.specs.Prelude.{◌≡◌, ◌∷◌, ◌++◌}
use Rattle.prost_reflect_laws.proofs.Common.{ℕ, Bool, true, false, cond, List, [], nat_eq, Option, Some, None, refl, ap, sym, ◌∙◌, map, true≢false, eqb-true, eq-eqb, WireType, ◌>>=◌, Payload, ValueFront, Field, Schema, known, field_of, is_sibling, numbers_differ, ContentOf, Entries, Value, Slot, value_at, slot_at, changed, entries_ordered, field_allowed, value_payloads, stray_payloads, MeansInside, JoinsInside, value_joined, value_step, value_behind, slot_step, record_at, kept_value, kept_inside, WellStored, ValueStored, with_value, with_stored, Step, field_number, empty_slot, eqb-sym, slots_same}
use Rattle.prost_reflect_laws.proofs.Allowed.{inside}
use Rattle.prost_reflect_laws.proofs.Means.{below, further}
use Rattle.prost_reflect_laws.proofs.Values.{value_records_known, unknown_known}
use Rattle.prost_reflect_laws.proofs.Arranged.{OrderedOption}
use Rattle.prost_reflect_laws.proofs.Slotwise.{slot_changed, kept_slot}
use Rattle.prost_reflect_laws.proofs.StoredSteps.{Mutual, value_in_order, kept_cleared, none_either, kept_step_at, no_more_unknown}
use Rattle.prost_reflect_laws.proofs.StoredSound.{value_sound as stored_sound}
use Rattle.prost_reflect_laws.proofs.Slots.{siblings_mutual}
use Rattle.prost_reflect_laws.proofs.RecordReads.{allowed_record, one_step}
use Rattle.prost_reflect_laws.proofs.Holding.{known_values, changed_ordered}

-- a record of the field that has no strays
pub record WholeRecord (fields : List Field) (f : Field) (p : Payload) : Type 0 where
  pub found : field_of fields f.number ≡ Some f
  pub read : value_payloads f.form f.value_type p ≡ p ∷ []
  pub stays : stray_payloads f.form f.value_type p ≡ []

-- what is kept of the value that is there, if there is one
abbrev pub kept_old : Field → Option Value → Option Value
kept_old f o = o >>= λ v. kept_value (Some f) (kept_inside v)

module _ (inner : MeansInside) (further : JoinsInside) (fields : List Field) where
  joined_value : (f : Field) (p : Payload) (v : Value) (m : ℕ) (slot : Slot) (b : Bool) (o : Option Field) → WholeRecord fields f p → Mutual fields f →
      (o ≡ None → slot.value ≡ None) → (m ≡ f.number → value_joined inner further f.form f.value_type (kept_old f slot.value) p ≡ kept_value (Some f) (kept_inside v)) → nat_eq m f.number ≡ b → field_of fields m ≡ o →
      (o >>= λ g. value_step inner further fields g (slot.value >>= λ v. kept_value o (kept_inside v)) (record_at f.number p))
      ≡ ((cond b (with_value (Some v) slot) (cond (is_sibling fields f m) (with_value None slot) slot)).value >>= λ v. kept_value o (kept_inside v))
  joined_value f p v m slot true o r fellows known joins d e =
      let is : o ≡ Some f = sym e ∙ ap (field_of fields) (eqb-true m f.number d) ∙ r.found in
      ap (λ (o : Option Field). o >>= λ g. value_step inner further fields g (slot.value >>= λ v. kept_value o (kept_inside v)) (record_at f.number p)) is
      ∙ ap (λ b. cond b (value_joined inner further f.form f.value_type (kept_old f slot.value) p) (cond (is_sibling fields f f.number) None (kept_old f slot.value))) (eq-eqb f.number f.number refl)
      ∙ joins (eqb-true m f.number d)
      ∙ sym (ap (λ o. kept_value o (kept_inside v)) is)
  joined_value f p v m slot false None r fellows known joins d e =
      sym (kept_cleared inner further fields None (is_sibling fields f m) slot
      ∙ ap (λ (o : Option Value). cond (is_sibling fields f m) None (o >>= λ v. kept_value None (kept_inside v))) (known refl)
      ∙ none_either inner further fields (is_sibling fields f m))
  joined_value f p v m slot false (Some g) r fellows known joins d e =
      let old : Option Value = (slot.value >>= λ v. kept_value (Some g) (kept_inside v)) in
      let apart : nat_eq f.number g.number ≡ false = ap (nat_eq f.number) (field_number fields m g e) ∙ eqb-sym f.number m ∙ d in
      ap (λ b. cond b (value_joined inner further g.form g.value_type old p) (cond (is_sibling fields g f.number) None old)) apart
      ∙ ap (λ b. cond b None old) (fellows m g e d)
      ∙ sym (kept_cleared inner further fields (Some g) (is_sibling fields f m) slot)

  -- at each number
  pub joined_step : (f : Field) (p : Payload) (v : Value) (m : ℕ) (slot : Slot) → WholeRecord fields f p → Mutual fields f → (field_of fields m ≡ None → slot.value ≡ None) →
      (m ≡ f.number → value_joined inner further f.form f.value_type (kept_old f slot.value) p ≡ kept_value (Some f) (kept_inside v)) →
      slot_step inner further fields (record_at f.number p) m (kept_slot fields m slot) ≡ kept_slot fields m (with_stored fields f v m slot)
  joined_step f p v m slot r fellows known joins = slots_same _ _
      (ap (value_behind inner further fields m (kept_slot fields m slot).value) (value_records_known fields f.number f p r.found ∙ ap (map (record_at f.number)) r.read)
      ∙ joined_value f p v m slot (nat_eq m f.number) (field_of fields m) r fellows known joins refl refl)
      (ap (λ (ps : List Payload). slot.unknowns ++ cond (nat_eq f.number m) ps []) (unknown_known fields f.number f p r.found ∙ r.stays) ∙ no_more_unknown inner further fields slot (nat_eq f.number m) ∙ sym (unmoved (nat_eq m f.number) (is_sibling fields f m)))
    where
      unmoved : (b c : Bool) → (cond b (with_value (Some v) slot) (cond c (with_value None slot) slot)).unknowns ≡ slot.unknowns
      unmoved true c = refl
      unmoved false true = refl
      unmoved false false = refl

-- WHOLE CONTENTS

still_empty : (v : Value) (b : Bool) → b ≡ false → (c : Bool) → cond b (with_value (Some v) empty_slot) (cond c (with_value None empty_slot) empty_slot) ≡ empty_slot
still_empty v true e c = absurd (true≢false e)
still_empty v false e true = refl
still_empty v false e false = refl

module _ (schema : Schema) (T : ℕ) (es : Entries) (sound : WellStored (ContentOf schema T es)) (differ : numbers_differ (known schema T) ≡ true) (f : Field) (found : field_of (known schema T) f.number ≡ Some f) (v : Value) (stored : ValueStored schema f v) where
  abbrev after : Entries
  after = changed f.number (with_stored (known schema T) f v) es

  both_ways : Mutual (known schema T) f
  both_ways m g at apart = siblings_mutual (known schema T) f differ found m g at

  slots_after : (m : ℕ) → slot_at (changed f.number (with_stored (known schema T) f v) es) m ≡ with_stored (known schema T) f v m (slot_at es m)
  slots_after m = slot_changed f.number m (with_stored (known schema T) f v) es (λ k apart. still_empty v (nat_eq k f.number) (eqb-sym k f.number ∙ apart) (is_sibling (known schema T) f k))

  each_ordered : (m : ℕ) (b c : Bool) → OrderedOption (cond b (with_value (Some v) (slot_at es m)) (cond c (with_value None (slot_at es m)) (slot_at es m))).value
  each_ordered m true c = stored.order
  each_ordered m false true = tt
  each_ordered m false false = value_in_order m es sound.order

  ordered_after : entries_ordered (changed f.number (with_stored (known schema T) f v) es) ≡ true
  ordered_after = changed_ordered f.number (with_stored (known schema T) f v) es (λ m. each_ordered m (nat_eq m f.number) (is_sibling (known schema T) f m))

  -- a value that fits its field keeps the content well-stored
  pub value_sound : WellStored (ContentOf schema T (changed f.number (with_stored (known schema T) f v) es))
  value_sound = stored_sound schema T es after f v differ found stored ordered_after slots_after sound

  -- behind its field's key, a payload whose value joins the one that is there
  pub value_holds : (k : ℕ) (w : WireType) (p : Payload) (bytes rest : List ℕ) → ValueFront f.number w k p bytes rest → WholeRecord (known schema T) f p → field_allowed k (inside schema k) f.form f.value_type p ≡ true →
      value_joined (below schema k) (further k) f.form f.value_type (kept_old f (value_at f.number es)) p ≡ kept_value (Some f) (kept_inside v) →
      Step k f.number w (ContentOf schema T es) (ContentOf schema T (changed f.number (with_stored (known schema T) f v) es)) bytes rest
  value_holds k w p bytes rest front whole allowed joins = record {
    read = record {
      payload = p;
      value = front;
      allowed = allowed_record schema k T f p found allowed;
      means = one_step schema k T es after (record_at f.number p)
          (kept_step_at (below schema k) (further k) schema T es after (record_at f.number p) sound.order ordered_after
          (λ m. joined_step (below schema k) (further k) (known schema T) f p v m (slot_at es m) whole both_ways (known_values (known schema T) es sound.fits m)
          (λ same. ap (λ n. value_joined (below schema k) (further k) f.form f.value_type (kept_old f (value_at n es)) p) same ∙ joins)
          ∙ ap (kept_slot (known schema T) m) (sym (slots_after m)))
          (λ m apart. joined_step (below schema k) (further k) (known schema T) f p v m empty_slot whole both_ways (λ absent. refl)
          (λ same. absurd (true≢false (sym (eq-eqb f.number m (sym same)) ∙ apart)))
          ∙ ap (kept_slot (known schema T) m) (still_empty v (nat_eq m f.number) (eqb-sym m f.number ∙ apart) (is_sibling (known schema T) f m))));
    };
    holds = record { schema = refl; type = refl; sound = value_sound };
  }
