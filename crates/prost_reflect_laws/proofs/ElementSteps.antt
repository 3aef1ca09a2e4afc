-- A message or a group as one more element of a list, read into a content that holds: its records are read into an empty message, which goes behind the elements that are there.
use Rattle.std.specs.Prelude.{◌≡◌, ◌≤◌, ◌||◌, ◌∷◌}
use Rattle.prost_reflect_laws.proofs.Common.{ℕ, suc, Bool, true, not, List, [], filter, Option, Some, None, refl, ap, ap₂, sym, ◌∙◌, subst, arith, and_parts, and_from, WireType, ◌>>=◌, Len, Records, Record, Payload, Flat, Group, items, body_of, raw_levels, KeyFront, DelimitedFront, ValueFront, Kind, ScalarOf, MessageOf, GroupOf, Repeated, Field, Schema, known, field_of, numbers_differ, passes, is_list, Content, ContentOf, Entries, Value, ScalarValue, MessageValue, ListValue, MapValue, Values, NoValues, Item, values_from, ◌and_then◌, value_at, slot_at, changed, empty, type_of, value_ordered, values_ordered, body, or_none, records_in, is_stray, one_allowed, packed_allowed, field_allowed, element_payloads_in, value_payloads, stray_payloads, MeansInside, element, present_list, values_in, value_joined, steps, kept, kept_value, kept_inside, kept_values, elements_valid, value_valid, EntryTest, value_passes, values_pass, fit_test, alone_test, kind_for, ValueTyped, ValuesTyped, WellStored, ValueStored, message_of_kind, greatest_level, with_stored, ReadTo, Holds, Step, spelled_read, items_body, meaning_steps, meaning_empty, values_present}
use Rattle.prost_reflect_wire.specs.declared.key.WireType.TheVariants as wires
use Rattle.prost_reflect_laws.proofs.Older.{items_level, allowed_levels}
use Rattle.prost_reflect_laws.proofs.Allowed.{inside}
use Rattle.prost_reflect_laws.proofs.Means.{below, further}
use Rattle.prost_reflect_laws.proofs.FieldTypes.{field_typed, typed_field}
use Rattle.prost_reflect_laws.proofs.Arranged.{OrderedOption}
use Rattle.prost_reflect_laws.proofs.StoredSteps.{value_in_order}
use Rattle.prost_reflect_laws.proofs.StoredSound.{inside_value}
use Rattle.prost_reflect_laws.proofs.StoredTyped.{OptionTyped, typed_values}
use Rattle.prost_reflect_laws.proofs.Readings.{whole_spelled}
use Rattle.prost_reflect_laws.proofs.StoredPasses.{OptionPasses, SlotPasses, passes_slots}
use Rattle.prost_reflect_laws.proofs.ValueCarried.{kept_list}
use Rattle.prost_reflect_laws.proofs.JoinedSteps.{kept_old, value_holds}
use Rattle.prost_reflect_laws.proofs.ListSteps.{IsListed, kept_joined, listed_kept}
use Rattle.prost_reflect_laws.proofs.ListReads.{valid_list, elements_joined}
use Rattle.prost_reflect_laws.proofs.MessageSteps.{message_kind, is_its_type, allows_inside}

-- a field of a list of messages of the type
pub record ManyMessages (f : Field) (U : ℕ) : Type 0 where
  pub packed : Bool
  pub form : f.form ≡ Repeated packed
  pub names : message_of_kind f.value_type.kind ≡ Some U

-- WHAT IS THERE

-- elements that are values of the kind, and hold
pub record Elements (schema : Schema) (kind : Kind) (vs : Values) : Type 0 where
  pub valid : elements_valid kind vs ≡ true
  pub fits : values_pass fit_test vs ≡ true
  pub types : ValuesTyped schema (Some kind) vs
  pub order : values_ordered vs ≡ true
  pub members : values_pass alone_test vs ≡ true

-- at the number of a list stand such elements, or nothing yet
pub record ElementsAt (schema : Schema) (kind : Kind) (o : Option Value) : Type 0 where
  pub listed : IsListed o
  pub elements : Elements schema kind (values_in o)

module _ (schema : Schema) (T : ℕ) (es : Entries) (sound : WellStored (ContentOf schema T es)) (n : ℕ) (f : Field) (found : field_of (known schema T) n ≡ Some f) (packed : Bool) (form : f.form ≡ Repeated packed) where
  value_elements : (w : Value) → value_valid f w ≡ true → value_passes fit_test w ≡ true → ValueTyped schema (kind_for (Some f) w) w → value_ordered w ≡ true → value_passes alone_test w ≡ true → ElementsAt schema f.value_type.kind (Some w)
  value_elements (ListValue vs) h fits types order members = record {
    listed = tt;
    elements = record { valid = (and_parts (is_list f.form) _ h).1; fits = fits; types = field_typed schema f (ListValue vs) h types; order = order; members = members };
  }
  value_elements (ScalarValue v) h fits types order members = absurd (let s = valid_list f packed (ScalarValue v) form h in s.listed)
  value_elements (MessageValue c) h fits types order members = absurd (let s = valid_list f packed (MessageValue c) form h in s.listed)
  value_elements (MapValue ps) h fits types order members = absurd (let s = valid_list f packed (MapValue ps) form h in s.listed)

  pub elements_at : ElementsAt schema f.value_type.kind (value_at n es)
  elements_at = go (value_at n es) refl
    where
      own : ℕ → Value → Bool
      own m w = passes (field_of (known schema T) m) (λ f. value_valid f w)

      fitting : SlotPasses fit_test (known schema T) own n (slot_at es n)
      fitting = passes_slots fit_test (known schema T) own (record { same = λ m w es. refl }) es n sound.fits

      go : (o : Option Value) → value_at n es ≡ o → ElementsAt schema f.value_type.kind o
      go None e = record { listed = tt; elements = record { valid = refl; fits = refl; types = tt; order = refl; members = refl } }
      go (Some w) e =
          let fits = and_parts (own n w) (value_passes fit_test w) (subst (OptionPasses fit_test (known schema T) own n) e fitting.value) in
          let types : ValueTyped schema (kind_for (field_of (known schema T) n) w) w = subst (OptionTyped schema (known schema T) n) e (typed_values schema (known schema T) es n sound.types) in
          value_elements w (ap (λ o. passes o (λ f. value_valid f w)) (sym found) ∙ fits.0) fits.1
          (subst (λ o. ValueTyped schema (kind_for o w) w) found types)
          (subst OrderedOption e (value_in_order n es sound.order))
          (inside_value alone_test (known schema T) es n w sound.members e)

-- ONE MORE ELEMENT

pass_more : (test : EntryTest) (vs : Values) (w : Value) → values_pass test vs ≡ true → value_passes test w ≡ true → values_pass test (vs and_then Item w NoValues) ≡ true
pass_more test NoValues w h g = and_from _ _ g refl
pass_more test (Item v vs) w h g = let (one, more) = and_parts (value_passes test v) (values_pass test vs) h in and_from _ _ one (pass_more test vs w more g)

ordered_more : (vs : Values) (w : Value) → values_ordered vs ≡ true → value_ordered w ≡ true → values_ordered (vs and_then Item w NoValues) ≡ true
ordered_more NoValues w h g = and_from _ _ g refl
ordered_more (Item v vs) w h g = let (one, more) = and_parts (value_ordered v) (values_ordered vs) h in and_from _ _ one (ordered_more vs w more g)

typed_more : (schema : Schema) (kind : Option Kind) (vs : Values) (w : Value) → ValuesTyped schema kind vs → ValueTyped schema kind w → ValuesTyped schema kind (vs and_then Item w NoValues)
typed_more schema kind NoValues w h g = (g, tt)
typed_more schema kind (Item v vs) w (one, more) g = (one, typed_more schema kind vs w more g)

one_element : (kind : Kind) (U : ℕ) (p : Payload) → message_of_kind kind ≡ Some U → filter (λ q. not (is_stray kind q)) (element_payloads_in kind p) ≡ p ∷ []
one_element (ScalarOf kind) U p e = cc
one_element (MessageOf V) U p e = refl
one_element (GroupOf V) U p e = refl

no_strays : (kind : Kind) (U : ℕ) (p : Payload) → message_of_kind kind ≡ Some U → filter (is_stray kind) (element_payloads_in kind p) ≡ []
no_strays (ScalarOf kind) U p e = cc
no_strays (MessageOf V) U p e = refl
no_strays (GroupOf V) U p e = refl

message_element : (inner : MeansInside) (kind : Kind) (U : ℕ) (p : Payload) → message_of_kind kind ≡ Some U → element inner kind p ≡ MessageValue (inner U (records_in p)) ∷ []
message_element inner (ScalarOf kind) U p e = cc
message_element inner (MessageOf V) U p e = ap (λ (V : ℕ). MessageValue (inner V (records_in p)) ∷ []) (let names : V ≡ U = cc in names)
message_element inner (GroupOf V) U p e = ap (λ (V : ℕ). MessageValue (inner V (records_in p)) ∷ []) (let names : V ≡ U = cc in names)

below_steps : (schema : Schema) (k U : ℕ) (rs : List Record) → below schema (suc k) U rs ≡ steps k (empty schema U) rs
unfolding below
below_steps schema k U rs = meaning_steps schema k U [] rs ∙ ap (λ c. steps k c rs) (meaning_empty schema k U)

-- what the values are with one more message
abbrev pub with_message : Option Value → Content → Value
with_message o d = ListValue (values_in o and_then Item (MessageValue d) NoValues)

module _ (schema : Schema) (T : ℕ) (es : Entries) (sound : WellStored (ContentOf schema T es)) (differ : numbers_differ (known schema T) ≡ true) (f : Field) (found : field_of (known schema T) f.number ≡ Some f) (U : ℕ) (many : ManyMessages f U)
    (d : Content) (holds : Holds (empty schema U) d) where
  old : ElementsAt schema f.value_type.kind (value_at f.number es)
  old = elements_at schema T es sound f.number f found many.packed many.form

  its_type : ValueTyped schema (Some f.value_type.kind) (MessageValue d)
  its_type = let w : WellStored d = holds.sound in ((holds.schema, is_its_type f.value_type.kind U (type_of d) many.names holds.type), w.types)

  stored_element : ValueStored schema f (with_message (value_at f.number es) d)
  stored_element =
      let w : WellStored d = holds.sound in
      let o : Elements schema f.value_type.kind (values_in (value_at f.number es)) = old.elements in
      let valid : value_valid f (with_message (value_at f.number es) d) ≡ true = and_from _ _ (ap is_list many.form)
      (elements_joined f.value_type.kind (values_in (value_at f.number es)) (Item (MessageValue d) NoValues) o.valid (and_from _ _ (message_kind f.value_type.kind U many.names) refl)) in
      record {
        valid = valid;
        fits = pass_more fit_test (values_in (value_at f.number es)) (MessageValue d) o.fits w.fits;
        types = typed_field schema f (with_message (value_at f.number es) d) valid (typed_more schema (Some f.value_type.kind) (values_in (value_at f.number es)) (MessageValue d) o.types its_type);
        order = ordered_more (values_in (value_at f.number es)) (MessageValue d) o.order w.order;
        members = pass_more alone_test (values_in (value_at f.number es)) (MessageValue d) o.members w.members;
      }

  joins : (k : ℕ) (p : Payload) (rs : List Record) → body p ≡ Some rs → kept d ≡ steps k (empty schema U) rs →
      value_joined (below schema (suc k)) (further (suc k)) f.form f.value_type (kept_old f (value_at f.number es)) p ≡ kept_value (Some f) (kept_inside (with_message (value_at f.number es) d))
  joins k p rs records means =
      let olds : Values = kept_values (values_in (value_at f.number es)) in
      ap (λ form. value_joined (below schema (suc k)) (further (suc k)) form f.value_type (kept_old f (value_at f.number es)) p) many.form
      ∙ ap (λ o. present_list (values_in o and_then values_from (element (below schema (suc k)) f.value_type.kind p))) (listed_kept f many.packed many.form (value_at f.number es) old.listed)
      ∙ ap₂ (λ vs ws. present_list (vs and_then values_from ws)) (values_present olds) (message_element (below schema (suc k)) f.value_type.kind U p many.names)
      ∙ ap (λ c. present_list (olds and_then Item (MessageValue c) NoValues)) (ap (below schema (suc k) U) (ap or_none records) ∙ below_steps schema k U rs ∙ sym means)
      ∙ ap present_list (sym (kept_joined (values_in (value_at f.number es)) (Item (MessageValue d) NoValues)))
      ∙ sym (kept_list f many.packed (kept_values (values_in (value_at f.number es) and_then Item (MessageValue d) NoValues)) many.form)

  -- a payload with records that were read into the empty message
  element_read : (k : ℕ) (w : WireType) (p : Payload) (rs : List Record) (bytes rest : List ℕ) → ValueFront f.number w (suc k) p bytes rest → body p ≡ Some rs → one_allowed (inside schema (suc k)) f.value_type.kind p ≡ true → kept d ≡ steps k (empty schema U) rs →
      Step (suc k) f.number w (ContentOf schema T es) (ContentOf schema T (changed f.number (with_stored (known schema T) f (with_message (value_at f.number es) d)) es)) bytes rest
  element_read k w p rs bytes rest front records allowed means =
      value_holds schema T es sound differ f found (with_message (value_at f.number es) d) stored_element (suc k) w p bytes rest front
      (record {
        found = found;
        read = ap (λ form. value_payloads form f.value_type p) many.form ∙ one_element f.value_type.kind U p many.names;
        stays = ap (λ form. stray_payloads form f.value_type p) many.form ∙ no_strays f.value_type.kind U p many.names;
      })
      (ap (λ form. field_allowed (suc k) (inside schema (suc k)) form f.value_type p) many.form ∙ ap (λ b. b || packed_allowed f.value_type.kind p) allowed)
      (joins k p rs records means)

  -- a length and a body, which its records spell
  pub message_element_holds : (k : ℕ) (inside_bytes bytes rest : List ℕ) → f.value_type.kind ≡ MessageOf U → ReadTo k (empty schema U) d inside_bytes [] → DelimitedFront inside_bytes bytes rest →
      Step (suc k) f.number wires.LengthDelimited (ContentOf schema T es) (ContentOf schema T (changed f.number (with_stored (known schema T) f (with_message (value_at f.number es) d)) es)) bytes rest
  message_element_holds k inside_bytes bytes rest kind done front =
      element_read k wires.LengthDelimited (Flat (Len inside_bytes)) done.records bytes rest (record { wire = refl; front = record { front = front.front; spelled = front.spelled; parts = front.parts }; within = omega arith }) records
      (ap (λ kind. one_allowed (inside schema (suc k)) kind (Flat (Len inside_bytes))) kind ∙ ap (λ o. passes o (inside schema (suc k) U)) records ∙ allows_inside schema k U done.records ∙ done.allowed) done.means
    where
      records : body (Flat (Len inside_bytes)) ≡ Some done.records
      records = ap (λ (o : Option Records). o >>= λ rs. Some (items rs)) (spelled_read (body_of done.records) inside_bytes (whole_spelled k (empty schema U) d inside_bytes done)) ∙ ap Some (items_body done.records)

  -- records up to the end key of the number
  pub group_element_holds : (k : ℕ) (bytes end rest : List ℕ) → f.value_type.kind ≡ GroupOf U → ReadTo k (empty schema U) d bytes end → KeyFront f.number wires.EndGroup end rest →
      Step (suc k) f.number wires.StartGroup (ContentOf schema T es) (ContentOf schema T (changed f.number (with_stored (known schema T) f (with_message (value_at f.number es) d)) es)) bytes rest
  group_element_holds k bytes end rest kind done stop =
      let low : greatest_level done.records ≤ k = allowed_levels schema k U done.records done.allowed in
      let levels : raw_levels (body_of done.records) ≡ greatest_level done.records = sym (items_level (body_of done.records)) ∙ ap greatest_level (items_body done.records) in
      element_read k wires.StartGroup (Group (body_of done.records)) done.records bytes rest (record { wire = refl; front = record { end = end; records = done.front; stop = stop }; within = omega (arith, low, levels) }) records
      (ap (λ kind. one_allowed (inside schema (suc k)) kind (Group (body_of done.records))) kind ∙ ap (λ o. passes o (inside schema (suc k) U)) records ∙ allows_inside schema k U done.records ∙ done.allowed) done.means
    where
      records : body (Group (body_of done.records)) ≡ Some done.records
      records = ap Some (items_body done.records)
