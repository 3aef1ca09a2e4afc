-- What a record of a list makes of what is kept: its elements stand behind those that are there.
use Rattle.std.specs.Prelude.{◌≡◌, ◌∷◌, ◌++◌}
use Rattle.prost_reflect_laws.proofs.Common.{ℕ, Bool, true, false, cond, List, [], map, flat_map, nat_eq, Option, Some, None, refl, ap, ap₂, sym, ◌∙◌, append-nil, ⊤, eqb-true, eq-eqb, ◌>>=◌, Payload, record_at, Repeated, Field, field_of, is_sibling, Value, ListValue, Values, NoValues, Item, values_from, ◌and_then◌, Slot, value_payloads, stray_payloads, MeansInside, JoinsInside, element, present_list, values_in, value_joined, value_step, value_steps, value_behind, slot_step, kept_value, kept_inside, kept_values, joined_slot, eqb-sym, slots_same, field_number, values_append, values_present}
use Rattle.prost_reflect_laws.proofs.Values.{value_records_known, unknown_known}
use Rattle.prost_reflect_laws.proofs.Slotwise.{kept_slot}
use Rattle.prost_reflect_laws.proofs.ValueCarried.{kept_list}

-- LISTS OF VALUES

pub and_nothing : (vs : Values) → (vs and_then NoValues) ≡ vs
and_nothing NoValues = refl
and_nothing (Item v vs) = ap (Item v) (and_nothing vs)

pub and_and : (us vs ws : Values) → ((us and_then vs) and_then ws) ≡ (us and_then (vs and_then ws))
and_and NoValues vs ws = refl
and_and (Item u us) vs ws = ap (Item u) (and_and us vs ws)

pub kept_joined : (vs ws : Values) → kept_values (vs and_then ws) ≡ (kept_values vs and_then kept_values ws)
kept_joined NoValues ws = refl
kept_joined (Item v vs) ws = ap (Item (kept_inside v)) (kept_joined vs ws)

-- ONE RECORD

-- a record of a list, whose elements are read as the added values, and whose strays stay unknown
pub record ListRecord (inner : MeansInside) (fields : List Field) (f : Field) (p : Payload) (added : Values) (strays : List Payload) : Type 0 where
  pub found : field_of fields f.number ≡ Some f
  pub packed : Bool
  pub form : f.form ≡ Repeated packed
  pub elements : List Payload
  pub taken : value_payloads f.form f.value_type p ≡ elements
  pub left : stray_payloads f.form f.value_type p ≡ strays
  pub values : kept_values added ≡ values_from (flat_map (element inner f.value_type.kind) elements)

-- a field that no other has as its sibling
pub record Lone (fields : List Field) (f : Field) : Type 0 where
  pub apart : (m : ℕ) (g : Field) → field_of fields m ≡ Some g → nat_eq m f.number ≡ false → is_sibling fields g f.number ≡ false

-- a list, or nothing yet
abbrev pub IsListed : Option Value → Type 0
IsListed None = ⊤
IsListed (Some (ListValue vs)) = ⊤
IsListed (Some v) = ⊥

-- what is kept of a list
pub listed_kept : (f : Field) (packed : Bool) → f.form ≡ Repeated packed → (o : Option Value) → IsListed o → (o >>= λ v. kept_value (Some f) (kept_inside v)) ≡ present_list (kept_values (values_in o))
listed_kept f packed form None h = refl
listed_kept f packed form (Some (ListValue vs)) h = kept_list f packed (kept_values vs) form
listed_kept f packed form (Some v) h = absurd h

module _ (inner : MeansInside) (further : JoinsInside) (fields : List Field) (f : Field) where
  own_step : (packed : Bool) → f.form ≡ Repeated packed → (o : Option Value) (p : Payload) → value_step inner further fields f o (record_at f.number p) ≡ present_list (values_in o and_then values_from (element inner f.value_type.kind p))
  own_step packed form o p =
      ap (λ b. cond b (value_joined inner further f.form f.value_type o p) (cond (is_sibling fields f f.number) None o)) (eq-eqb f.number f.number refl)
      ∙ ap (λ form. value_joined inner further form f.value_type o p) form

  -- elements one behind another
  own_steps : (packed : Bool) → f.form ≡ Repeated packed → (o : Option Value) (ps : List Payload) → o ≡ present_list (values_in o) →
      value_steps inner further fields f o (map (record_at f.number) ps) ≡ present_list (values_in o and_then values_from (flat_map (element inner f.value_type.kind) ps))
  own_steps packed form o [] h = h ∙ ap present_list (sym (and_nothing (values_in o)))
  own_steps packed form o (p ∷ ps) h =
      let one : List Value = element inner f.value_type.kind p in
      let more : List Value = flat_map (element inner f.value_type.kind) ps in
      let here : Values = (values_in o and_then values_from one) in
      ap (λ o. value_steps inner further fields f o (map (record_at f.number) ps)) (own_step packed form o p)
      ∙ own_steps packed form (present_list here) ps (ap present_list (sym (values_present here)))
      ∙ ap present_list (ap (λ vs. vs and_then values_from more) (values_present here) ∙ and_and (values_in o) (values_from one) (values_from more) ∙ ap (λ vs. values_in o and_then vs) (sym (values_append one more)))

  other_steps : (g : Field) → nat_eq f.number g.number ≡ false → is_sibling fields g f.number ≡ false → (o : Option Value) (ps : List Payload) → value_steps inner further fields g o (map (record_at f.number) ps) ≡ o
  other_steps g apart still o [] = refl
  other_steps g apart still o (p ∷ ps) =
      ap (λ o. value_steps inner further fields g o (map (record_at f.number) ps))
      (ap₂ (λ b c. cond b (value_joined inner further g.form g.value_type o p) (cond c None o)) apart still)
      ∙ other_steps g apart still o ps

  list_value : (p : Payload) (added : Values) (strays : List Payload) (m : ℕ) (slot : Slot) (b : Bool) (o : Option Field) (r : ListRecord inner fields f p added strays) → Lone fields f →
      (nat_eq m f.number ≡ true → IsListed slot.value) → (o ≡ None → slot.value ≡ None) → nat_eq m f.number ≡ b → field_of fields m ≡ o →
      (o >>= λ g. value_steps inner further fields g (slot.value >>= λ v. kept_value o (kept_inside v)) (map (record_at f.number) r.elements))
      ≡ ((cond b (record { value = Some (ListValue (values_in slot.value and_then added)); unknowns = slot.unknowns ++ strays }) slot).value >>= λ v. kept_value o (kept_inside v))
  list_value p added strays m slot true o r lone listed known d e =
      let is : o ≡ Some f = sym e ∙ ap (field_of fields) (eqb-true m f.number d) ∙ r.found in
      let olds : Values = kept_values (values_in slot.value) in
      let more : List Value = flat_map (element inner f.value_type.kind) r.elements in
      ap (λ (o : Option Field). o >>= λ g. value_steps inner further fields g (slot.value >>= λ v. kept_value o (kept_inside v)) (map (record_at f.number) r.elements)) is
      ∙ ap (λ o. value_steps inner further fields f o (map (record_at f.number) r.elements)) (listed_kept f r.packed r.form slot.value (listed d))
      ∙ own_steps r.packed r.form (present_list olds) r.elements (ap present_list (sym (values_present olds)))
      ∙ ap present_list (ap (λ vs. vs and_then values_from more) (values_present olds) ∙ ap (λ vs. olds and_then vs) (sym r.values) ∙ sym (kept_joined (values_in slot.value) added))
      ∙ sym (kept_list f r.packed (kept_values (values_in slot.value and_then added)) r.form)
      ∙ sym (ap (λ o. kept_value o (ListValue (kept_values (values_in slot.value and_then added)))) is)
  list_value p added strays m slot false None r lone listed known d e = sym (ap (λ (o : Option Value). o >>= λ v. kept_value None (kept_inside v)) (known refl))
  list_value p added strays m slot false (Some g) r lone listed known d e =
      other_steps g (ap (nat_eq f.number) (field_number fields m g e) ∙ eqb-sym f.number m ∙ d) (lone.apart m g e d) (slot.value >>= λ v. kept_value (Some g) (kept_inside v)) r.elements

  -- at each number
  pub list_step : (p : Payload) (added : Values) (strays : List Payload) (m : ℕ) (slot : Slot) → ListRecord inner fields f p added strays → Lone fields f → (nat_eq m f.number ≡ true → IsListed slot.value) → (field_of fields m ≡ None → slot.value ≡ None) →
      slot_step inner further fields (record_at f.number p) m (kept_slot fields m slot) ≡ kept_slot fields m (joined_slot f added strays m slot)
  list_step p added strays m slot r lone listed known = slots_same _ _
      (ap (value_behind inner further fields m (kept_slot fields m slot).value) (value_records_known fields f.number f p r.found ∙ ap (map (record_at f.number)) r.taken)
      ∙ list_value p added strays m slot (nat_eq m f.number) (field_of fields m) r lone listed known refl refl)
      (ap (λ (ps : List Payload). slot.unknowns ++ cond (nat_eq f.number m) ps []) (unknown_known fields f.number f p r.found ∙ r.left)
      ∙ ap (λ b. slot.unknowns ++ cond b strays []) (eqb-sym f.number m) ∙ unknowns (nat_eq m f.number))
    where
      unknowns : (b : Bool) → slot.unknowns ++ cond b strays [] ≡ (cond b (record { value = Some (ListValue (values_in slot.value and_then added)); unknowns = slot.unknowns ++ strays }) slot).unknowns
      unknowns true = refl
      unknowns false = append-nil slot.unknowns
