-- A record of a list, read into a content that holds.
use Rattle.std.specs.Prelude.{◌≡◌, ◌||◌, ◌∷◌, ◌++◌}
use Rattle.prost_reflect_laws.proofs.Common.{ℕ, Bool, true, false, cond, not, List, [], filter, flat_map, nat_eq, Option, Some, None, refl, ap, ap₂, sym, ◌∙◌, subst, append-nil, true≢false, arith, list_all, eqb-true, and_parts, and_from, WireType, AreBytes, Payload, Flat, payload_valid, record_at, ValueFront, Scalar, ScalarKind, elem, is_undeclared, scalar_valid, Kind, ScalarOf, Repeated, Field, Schema, known, field_of, is_sibling, is_singular, numbers_differ, passes, is_list, Content, ContentOf, Entries, Value, ScalarValue, ListValue, MapValue, Values, NoValues, Item, values_from, ◌and_then◌, Slot, schema_of, type_of, entries_of, value_at, unknowns_at, slot_at, changed, entries_ordered, values_ordered, field_allowed, one_allowed, packed_allowed, element_payloads_in, is_stray, value_payloads, stray_payloads, element, scalar_values, values_in, fit_test, alone_test, EntryTest, element_valid, elements_valid, value_valid, pairs_valid, value_passes, values_pass, entries_pass, kind_for, ValuesTyped, kept_values, ValueStored, WellStored, with_value, with_stored, joined_slot, RecordRead, Step, ElementsRead, ElementsJoined, list_takes, field_number, empty_slot, eqb-sym}
use Rattle.prost_reflect_laws.proofs.Allowed.{inside}
use Rattle.prost_reflect_laws.proofs.Means.{below, further}
use Rattle.prost_reflect_laws.proofs.Declared.{read_valid}
use Rattle.prost_reflect_laws.proofs.Readable.{elements_in_valid}
use Rattle.prost_reflect_laws.proofs.Arranged.{OrderedOption}
use Rattle.prost_reflect_laws.proofs.Slotwise.{kept_slot, slot_changed}
use Rattle.prost_reflect_laws.proofs.StoredSteps.{Known, value_in_order, kept_step_at}
use Rattle.prost_reflect_laws.proofs.StoredPasses.{OptionPasses, SlotPasses, passes_slots}
use Rattle.prost_reflect_laws.proofs.RecordReads.{allowed_record, one_step}
use Rattle.prost_reflect_laws.proofs.Slots.{siblings_mutual}
use Rattle.prost_reflect_laws.proofs.StoredSound.{no_sibling, value_sound}
use Rattle.prost_reflect_laws.proofs.Holding.{known_values, changed_ordered, payload_front_valid}
use Rattle.prost_reflect_laws.proofs.ListSteps.{ListRecord, Lone, IsListed, list_step}

-- THE RECORD

module _ (schema : Schema) (k T : ℕ) (es ds : Entries) (f : Field) (p : Payload) (added : Values) (strays : List Payload) where
  -- the record of a list is read where its elements were joined
  pub list_record : (w : WireType) (bytes rest : List ℕ) → ListRecord (below schema k) (known schema T) f p added strays → Lone (known schema T) f → IsListed (value_at f.number es) →
      ValueFront f.number w k p bytes rest → field_allowed k (inside schema k) f.form f.value_type p ≡ true → Known (known schema T) es → entries_ordered es ≡ true → entries_ordered ds ≡ true →
      ((m : ℕ) → slot_at ds m ≡ joined_slot f added strays m (slot_at es m)) → RecordRead k f.number w (ContentOf schema T es) (ContentOf schema T ds) bytes rest
  list_record w bytes rest r lone listed front allowed values o q slots = record {
    payload = p;
    value = front;
    allowed = allowed_record schema k T f p r.found allowed;
    means = one_step schema k T es ds (record_at f.number p)
        (kept_step_at (below schema k) (further k) schema T es ds (record_at f.number p) o q
        (λ m. list_step (below schema k) (further k) (known schema T) f p added strays m (slot_at es m) r lone (λ same. subst (λ n. IsListed (value_at n es)) (sym (eqb-true m f.number same)) listed) (values m) ∙ ap (kept_slot (known schema T) m) (sym (slots m)))
        (λ m apart. list_step (below schema k) (further k) (known schema T) f p added strays m empty_slot r lone (λ same. tt) (λ none. refl) ∙ ap (kept_slot (known schema T) m) (still m (nat_eq m f.number) (eqb-sym m f.number ∙ apart))));
  }
    where
      still : (m : ℕ) (b : Bool) → b ≡ false → cond b (record { value = Some (ListValue (NoValues and_then added)); unknowns = [] ++ strays }) empty_slot ≡ empty_slot
      still m true e = absurd (true≢false e)
      still m false e = refl

-- VALUES

-- lists of scalars hold no message
pub record Scalars (vs : Values) : Type 0 where
  pub passes : (test : EntryTest) → values_pass test vs ≡ true
  pub typed : (schema : Schema) (kind : Option Kind) → ValuesTyped schema kind vs
  pub order : values_ordered vs ≡ true
  pub kept : kept_values vs ≡ vs

pub scalars_only : (kind : ScalarKind) (vs : Values) → elements_valid (ScalarOf kind) vs ≡ true → Scalars vs
scalars_only kind NoValues h = record { passes = λ test. refl; typed = λ schema kind. tt; order = refl; kept = refl }
scalars_only kind (Item (ScalarValue v) vs) h =
    let more : Scalars vs = scalars_only kind vs (and_parts (scalar_valid kind v) (elements_valid (ScalarOf kind) vs) h).1 in
    record { passes = more.passes; typed = λ schema kind. (tt, more.typed schema kind); order = more.order; kept = ap (Item (ScalarValue v)) more.kept }
scalars_only kind _ h = absurd (true≢false (sym h))

pub list_stored : (schema : Schema) (f : Field) (packed : Bool) (kind : ScalarKind) (vs : Values) → f.form ≡ Repeated packed → f.value_type.kind ≡ ScalarOf kind → elements_valid (ScalarOf kind) vs ≡ true → ValueStored schema f (ListValue vs)
list_stored schema f packed kind vs form is h =
    let s : Scalars vs = scalars_only kind vs h in
    record {
      valid = and_from _ _ (ap is_list form) (ap (λ kind. elements_valid kind vs) is ∙ h);
      fits = s.passes fit_test;
      types = s.typed schema (kind_for (Some f) (ListValue vs));
      order = s.order;
      members = s.passes alone_test;
    }

pub elements_joined : (kind : Kind) (vs ws : Values) → elements_valid kind vs ≡ true → elements_valid kind ws ≡ true → elements_valid kind (vs and_then ws) ≡ true
elements_joined kind NoValues ws h g = g
elements_joined kind (Item v vs) ws h g = let (one, more) = and_parts (element_valid kind v) (elements_valid kind vs) h in and_from _ _ one (elements_joined kind vs ws more g)

-- what is stored of a list
pub record StoredList (kind : Kind) (o : Option Value) : Type 0 where
  pub listed : IsListed o
  pub valid : elements_valid kind (values_in o) ≡ true

pub valid_list : (f : Field) (packed : Bool) (v : Value) → f.form ≡ Repeated packed → value_valid f v ≡ true → StoredList f.value_type.kind (Some v)
valid_list f packed (ListValue vs) form h = record { listed = tt; valid = (and_parts _ _ h).1 }
valid_list f packed (MapValue ps) form h = absurd (true≢false (sym h ∙ ap (λ form. pairs_valid form f.value_type.kind ps) form))
valid_list f packed _ form h = absurd (true≢false (sym (and_parts _ _ h).0 ∙ ap is_singular form))

pub stored_list : (fields : List Field) (es : Entries) (f : Field) (packed : Bool) → entries_pass fit_test fields es ≡ true → field_of fields f.number ≡ Some f → f.form ≡ Repeated packed → StoredList f.value_type.kind (value_at f.number es)
stored_list fields es f packed fits found form = go (value_at f.number es) at.value
  where
    own : ℕ → Value → Bool
    own n v = passes (field_of fields n) (λ f. value_valid f v)

    at : SlotPasses fit_test fields own f.number (slot_at es f.number)
    at = passes_slots fit_test fields own (record { same = λ n v es. refl }) es f.number fits

    go : (o : Option Value) → OptionPasses fit_test fields own f.number o → StoredList f.value_type.kind o
    go None h = record { listed = tt; valid = refl }
    go (Some v) h = valid_list f packed v form (ap (λ o. passes o (λ f. value_valid f v)) (sym found) ∙ (and_parts (own f.number v) (value_passes fit_test v) h).0)

-- LISTS OF SCALARS

-- a kind that takes whatever number is read
pub record IsOpen (kind : ScalarKind) : Type 0 where
  pub declared : (p : Payload) → is_undeclared kind p ≡ false

all_taken : (kind : ScalarKind) (ps : List Payload) → IsOpen kind → filter (λ q. not (is_undeclared kind q)) ps ≡ ps
all_taken kind [] whole = refl
all_taken kind (p ∷ ps) whole = ap₂ (λ b l. cond (not b) (p ∷ l) l) (whole.declared p) (all_taken kind ps whole)

none_left : (kind : ScalarKind) (ps : List Payload) → IsOpen kind → filter (is_undeclared kind) ps ≡ []
none_left kind [] whole = refl
none_left kind (p ∷ ps) whole = ap₂ (λ b l. cond b (p ∷ l) l) (whole.declared p) (none_left kind ps whole)

all_valid : (kind : ScalarKind) (ps : List Payload) → IsOpen kind → list_all payload_valid ps ≡ true → elements_valid (ScalarOf kind) (values_from (flat_map (λ q. scalar_values (elem kind q)) ps)) ≡ true
all_valid kind [] whole h = refl
all_valid kind (p ∷ ps) whole h = let (one, more) = and_parts (payload_valid p) (list_all payload_valid ps) h in go (elem kind p) refl one (all_valid kind ps whole more)
  where
    go : (o : Option Scalar) → elem kind p ≡ o → payload_valid p ≡ true → elements_valid (ScalarOf kind) (values_from (flat_map (λ q. scalar_values (elem kind q)) ps)) ≡ true →
        elements_valid (ScalarOf kind) (values_from (scalar_values o ++ flat_map (λ q. scalar_values (elem kind q)) ps)) ≡ true
    go None e one more = more
    go (Some v) e one more = and_from _ _ (read_valid kind p v one (whole.declared p) e) more

-- the elements that are read are values of the kind
pub elements_read_valid : (kind : ScalarKind) (w : WireType) (vs : List Value) (bytes rest : List ℕ) → ElementsRead kind w vs bytes rest → IsOpen kind → AreBytes bytes → elements_valid (ScalarOf kind) (values_from vs) ≡ true
elements_read_valid kind w vs bytes rest read whole small =
    ap (λ vs. elements_valid (ScalarOf kind) (values_from vs)) read.values
    ∙ all_valid kind (element_payloads_in (ScalarOf kind) (Flat read.plain)) whole (elements_in_valid (ScalarOf kind) (Flat read.plain) (payload_front_valid 0 (Flat read.plain) bytes rest small read.front))

module _ (schema : Schema) (T : ℕ) (es : Entries) (sound : WellStored (ContentOf schema T es)) where
  -- values of the kind put behind those of the list
  pub values_behind : (f : Field) (packed : Bool) (kind : ScalarKind) (added : Values) → numbers_differ (known schema T) ≡ true → field_of (known schema T) f.number ≡ Some f → f.form ≡ Repeated packed → f.value_type.kind ≡ ScalarOf kind → f.oneof ≡ None →
      elements_valid (ScalarOf kind) added ≡ true → ElementsJoined f added [] (ContentOf schema T es) (ContentOf schema T (changed f.number (with_stored (known schema T) f (ListValue (values_in (value_at f.number es) and_then added))) es))
  values_behind f packed kind added differ found form is alone valid = record {
    slots = λ m. slots m ∙ as_joined m (nat_eq m f.number) refl;
    holds = record { schema = refl; type = refl; sound = value_sound schema T es (changed f.number change es) f (ListValue (values_in (value_at f.number es) and_then added)) differ found fit ordered slots sound };
  }
    where
      joined : Values
      joined = values_in (value_at f.number es) and_then added

      change : ℕ → Slot → Slot
      change = with_stored (known schema T) f (ListValue (values_in (value_at f.number es) and_then added))

      old : StoredList f.value_type.kind (value_at f.number es)
      old = stored_list (known schema T) es f packed sound.fits found form

      fit : ValueStored schema f (ListValue (values_in (value_at f.number es) and_then added))
      fit = list_stored schema f packed kind (values_in (value_at f.number es) and_then added) form is
          (elements_joined (ScalarOf kind) (values_in (value_at f.number es)) added (ap (λ kind. elements_valid kind (values_in (value_at f.number es))) (sym is) ∙ old.valid) valid)

      still : (m : ℕ) (b : Bool) → b ≡ false → (c : Bool) → cond b (with_value (Some (ListValue (values_in (value_at f.number es) and_then added))) empty_slot) (cond c (with_value None empty_slot) empty_slot) ≡ empty_slot
      still m true e c = absurd (true≢false e)
      still m false e true = refl
      still m false e false = refl

      slots : (m : ℕ) → slot_at (changed f.number (with_stored (known schema T) f (ListValue (values_in (value_at f.number es) and_then added))) es) m
          ≡ with_stored (known schema T) f (ListValue (values_in (value_at f.number es) and_then added)) m (slot_at es m)
      slots m = slot_changed f.number m change es (λ k apart. still k (nat_eq k f.number) (eqb-sym k f.number ∙ apart) (is_sibling (known schema T) f k))

      as_joined : (m : ℕ) (b : Bool) → nat_eq m f.number ≡ b → with_stored (known schema T) f (ListValue (values_in (value_at f.number es) and_then added)) m (slot_at es m) ≡ joined_slot f added [] m (slot_at es m)
      as_joined m true at =
          ap (λ b. cond b (with_value (Some (ListValue joined)) (slot_at es m)) (cond (is_sibling (known schema T) f m) (with_value None (slot_at es m)) (slot_at es m))) at
          ∙ ap₂ (λ n ps. record { value = Some (ListValue (values_in (value_at n es) and_then added)); unknowns = ps }) (sym (eqb-true m f.number at)) (sym (append-nil (unknowns_at m es)))
          ∙ sym (ap (λ b. cond b (record { value = Some (ListValue (values_in (value_at m es) and_then added)); unknowns = unknowns_at m es ++ [] }) (slot_at es m)) at)
      as_joined m false at =
          ap (λ b. cond b (with_value (Some (ListValue joined)) (slot_at es m)) (cond (is_sibling (known schema T) f m) (with_value None (slot_at es m)) (slot_at es m))) at
          ∙ ap (λ b. cond b (with_value None (slot_at es m)) (slot_at es m)) (no_sibling (known schema T) f m alone)
          ∙ sym (ap (λ b. cond b (record { value = Some (ListValue (values_in (value_at m es) and_then added)); unknowns = unknowns_at m es ++ [] }) (slot_at es m)) at)

      each : (m : ℕ) (b c : Bool) → OrderedOption (cond b (with_value (Some (ListValue (values_in (value_at f.number es) and_then added))) (slot_at es m)) (cond c (with_value None (slot_at es m)) (slot_at es m))).value
      each m true c = fit.order
      each m false true = tt
      each m false false = value_in_order m es sound.order

      ordered : entries_ordered (changed f.number (with_stored (known schema T) f (ListValue (values_in (value_at f.number es) and_then added))) es) ≡ true
      ordered = changed_ordered f.number change es (λ m. each m (nat_eq m f.number) (is_sibling (known schema T) f m))

  -- the record of a list, whose elements and strays were joined to what is there
  pub joined_read : (k : ℕ) (f : Field) (packed : Bool) (kind : ScalarKind) (w : WireType) (p : Payload) (added : Values) (strays : List Payload) (new : Content) (bytes rest : List ℕ) → numbers_differ (known schema T) ≡ true → field_of (known schema T) f.number ≡ Some f →
      f.form ≡ Repeated packed → f.value_type.kind ≡ ScalarOf kind → f.oneof ≡ None → ElementsJoined f added strays (ContentOf schema T es) new → filter (is_undeclared kind) (element_payloads_in (ScalarOf kind) p) ≡ strays →
      kept_values added ≡ values_from (flat_map (λ q. scalar_values (elem kind q)) (filter (λ q. not (is_undeclared kind q)) (element_payloads_in (ScalarOf kind) p))) → list_takes kind p ≡ true → ValueFront f.number w k p bytes rest →
      Step k f.number w (ContentOf schema T es) new bytes rest
  joined_read k f packed kind w p added strays new bytes rest differ found form is alone joined left values taken front =
      subst (λ d. Step k f.number w (ContentOf schema T es) d bytes rest) (same_type schema T new joined.holds.schema joined.holds.type) (record {
        read = list_record schema k T es (entries_of new) f p added strays w bytes rest
            (record {
              found = found;
              packed = packed;
              form = form;
              elements = filter (λ q. not (is_stray (ScalarOf kind) q)) (element_payloads_in (ScalarOf kind) p);
              taken = ap (λ form. value_payloads form f.value_type p) form ∙ ap (λ kind. filter (λ q. not (is_stray kind q)) (element_payloads_in kind p)) is;
              left = ap (λ form. stray_payloads form f.value_type p) form ∙ ap (λ kind. filter (is_stray kind) (element_payloads_in kind p)) is ∙ left;
              values = values ∙ ap (λ of. values_from (flat_map (element (below schema k) of) (filter (λ q. not (is_undeclared kind q)) (element_payloads_in (ScalarOf kind) p)))) (sym is);
            })
            (record { apart = λ m g there apart. siblings_mutual (known schema T) f differ found m g there ∙ no_sibling (known schema T) f m alone })
            (let old = stored_list (known schema T) es f packed sound.fits found form in old.listed) front
            (ap (λ form. field_allowed k (inside schema k) form f.value_type p) form ∙ ap (λ kind. one_allowed (inside schema k) kind p || packed_allowed kind p) is ∙ taken)
            (known_values (known schema T) es sound.fits) sound.order held.order joined.slots;
        holds = record { schema = refl; type = refl; sound = held };
      })
    where
      same_type : (schema : Schema) (T : ℕ) (new : Content) → schema_of new ≡ schema → type_of new ≡ T → ContentOf schema T (entries_of new) ≡ new
      same_type schema T (ContentOf s t ds) e f = ap₂ (λ s t. ContentOf s t ds) (sym e) (sym f)

      held : WellStored (ContentOf schema T (entries_of new))
      held = subst WellStored (sym (same_type schema T new joined.holds.schema joined.holds.type)) joined.holds.sound

  elements_at_number : (k : ℕ) (f : Field) (packed : Bool) (kind : ScalarKind) (w : WireType) (vs : List Value) (bytes rest : List ℕ) → numbers_differ (known schema T) ≡ true → field_of (known schema T) f.number ≡ Some f → f.form ≡ Repeated packed →
      f.value_type.kind ≡ ScalarOf kind → f.oneof ≡ None → IsOpen kind → AreBytes bytes → ElementsRead kind w vs bytes rest →
      Step k f.number w (ContentOf schema T es) (ContentOf schema T (changed f.number (with_stored (known schema T) f (ListValue (values_in (value_at f.number es) and_then values_from vs))) es)) bytes rest
  elements_at_number k f packed kind w vs bytes rest differ found form is alone whole small read =
      let valid : elements_valid (ScalarOf kind) (values_from vs) ≡ true = elements_read_valid kind w vs bytes rest read whole small in
      let s : Scalars (values_from vs) = scalars_only kind (values_from vs) valid in
      joined_read k f packed kind w (Flat read.plain) (values_from vs) [] (ContentOf schema T (changed f.number (with_stored (known schema T) f (ListValue (values_in (value_at f.number es) and_then values_from vs))) es)) bytes rest differ found form is alone
      (values_behind f packed kind (values_from vs) differ found form is alone valid)
      (none_left kind (element_payloads_in (ScalarOf kind) (Flat read.plain)) whole)
      (s.kept ∙ ap values_from read.values ∙ ap (λ ps. values_from (flat_map (λ q. scalar_values (elem kind q)) ps)) (sym (all_taken kind (element_payloads_in (ScalarOf kind) (Flat read.plain)) whole)))
      read.taken (record { wire = read.wire; front = read.front; within = omega arith })

  -- elements behind those that are stored at the number of a list
  pub list_holds : (k n : ℕ) (f : Field) (packed : Bool) (kind : ScalarKind) (w : WireType) (vs : List Value) (bytes rest : List ℕ) → numbers_differ (known schema T) ≡ true → field_of (known schema T) n ≡ Some f → f.form ≡ Repeated packed →
      f.value_type.kind ≡ ScalarOf kind → f.oneof ≡ None → IsOpen kind → AreBytes bytes → ElementsRead kind w vs bytes rest →
      Step k n w (ContentOf schema T es) (ContentOf schema T (changed f.number (with_stored (known schema T) f (ListValue (values_in (value_at n es) and_then values_from vs))) es)) bytes rest
  list_holds k n f packed kind w vs bytes rest differ found form is alone whole small read =
      let number : f.number ≡ n = field_number (known schema T) n f found in
      subst (λ m. Step k m w (ContentOf schema T es) (ContentOf schema T (changed f.number (with_stored (known schema T) f (ListValue (values_in (value_at m es) and_then values_from vs))) es)) bytes rest) number
      (elements_at_number k f packed kind w vs bytes rest differ (ap (field_of (known schema T)) number ∙ found) form is alone whole small read)
