-- A message or a group of one value, read into a content that holds: its records are read into the message that is there, or into an empty one.
use Rattle.std.specs.Prelude.{◌≡◌, ◌≤◌}
use Rattle.prost_reflect_laws.proofs.Common.{ℕ, suc, Bool, true, false, List, [], Option, Some, None, refl, ap, ap₂, sym, ◌∙◌, subst, arith, true≢false, unwrap_or, eq-eqb, and_parts, and_from, or-false, WireType, ◌>>=◌, Len, Records, Record, Payload, Flat, Group, items, body_of, raw_levels, KeyFront, DelimitedFront, ValueFront, Kind, ScalarOf, MessageOf, GroupOf, ValueType, FieldForm, Singular, Repeated, MapFrom, Field, Schema, known, field_of, is_message, is_singular, numbers_differ, passes, is_list, is_map, Content, ContentOf, Entries, Value, ScalarValue, MessageValue, ListValue, MapValue, value_at, slot_at, changed, empty, schema_of, type_of, value_ordered, body, or_none, records_in, is_stray, one_allowed, field_allowed, allows, MeansInside, JoinsInside, content_in, one_joined, value_joined, steps, kept, kept_value, kept_inside, kind_takes, pairs_valid, value_valid, value_passes, fit_test, alone_test, is_of_type, kind_for, ValueTyped, WellStored, ValueStored, message_of_kind, greatest_level, with_stored, ReadTo, Holds, Step, one_takes, takes, needs_level, spelled_read, items_body, meaning_empty}
use Rattle.prost_reflect_wire.specs.declared.key.WireType.TheVariants as wires
use Rattle.prost_reflect_laws.proofs.Older.{items_level, allowed_levels}
use Rattle.prost_reflect_laws.proofs.Values.{one_value_payload, no_stray_payload}
use Rattle.prost_reflect_laws.proofs.Allowed.{inside}
use Rattle.prost_reflect_laws.proofs.Means.{below, further}
use Rattle.prost_reflect_laws.proofs.StoredSound.{inside_value}
use Rattle.prost_reflect_laws.proofs.FieldTypes.{field_typed, typed_field}
use Rattle.prost_reflect_laws.proofs.Setting.{type_is}
use Rattle.prost_reflect_laws.proofs.Arranged.{OrderedOption}
use Rattle.prost_reflect_laws.proofs.StoredSteps.{value_in_order}
use Rattle.prost_reflect_laws.proofs.StoredTyped.{OptionTyped, typed_values}
use Rattle.prost_reflect_laws.proofs.Readings.{whole_spelled}
use Rattle.prost_reflect_laws.proofs.StoredPasses.{OptionPasses, SlotPasses, passes_slots}
use Rattle.prost_reflect_laws.proofs.JoinedSteps.{kept_old, value_holds}

-- a field of one message of the type
pub record OneMessage (f : Field) (U : ℕ) : Type 0 where
  pub form : f.form ≡ Singular
  pub names : message_of_kind f.value_type.kind ≡ Some U

-- WHAT IS THERE

-- the content that records are read into: that of the message at the number, or an empty one
pub record ReadInto (schema : Schema) (U n : ℕ) (es : Entries) (c : Content) : Type 0 where
  pub is : unwrap_or (value_at n es) (MessageValue (empty schema U)) ≡ MessageValue c

pub message_kind : (kind : Kind) (U : ℕ) → message_of_kind kind ≡ Some U → is_message kind ≡ true
message_kind (ScalarOf kind) U e = cc
message_kind (MessageOf V) U e = refl
message_kind (GroupOf V) U e = refl

-- what is kept of a message's value is what is kept of the message
pub kept_message : (f : Field) (c : Content) → f.form ≡ Singular → kept_value (Some f) (MessageValue c) ≡ Some (MessageValue c)
kept_message f c form = ap (λ form. go form) form
  where
    go : FieldForm → Option Value
    go form = kept_value (Some (record f { form = form })) (MessageValue c)

-- the content before, as the definitions see it
content_before : (inner : MeansInside) (schema : Schema) (U n : ℕ) (es : Entries) (f : Field) (c : Content) → f.form ≡ Singular → inner U [] ≡ empty schema U → ReadInto schema U n es c → content_in inner U (kept_old f (value_at n es)) ≡ kept c
content_before inner schema U n es f c form none into = go (value_at n es) into.is
  where
    inside_of : Value → Content
    inside_of (MessageValue d) = d
    inside_of v = c

    go : (o : Option Value) → unwrap_or o (MessageValue (empty schema U)) ≡ MessageValue c → content_in inner U (o >>= λ v. kept_value (Some f) (kept_inside v)) ≡ kept c
    go None e = none ∙ ap (λ v. kept (inside_of v)) e
    go (Some v) e = ap (λ v. content_in inner U (kept_value (Some f) (kept_inside v))) e ∙ ap (content_in inner U) (kept_message f (kept c) form)

-- a message that stands where a field of one message has its value
pub record Nested (schema : Schema) (U : ℕ) (v : Value) : Type 0 where
  pub content : Content
  pub is : v ≡ MessageValue content
  pub schema_is : schema_of content ≡ schema
  pub type_is : type_of content ≡ U
  pub sound : WellStored content

empty_nested : (schema : Schema) (U : ℕ) → Nested schema U (MessageValue (empty schema U))
empty_nested schema U = record { content = empty schema U; is = refl; schema_is = refl; type_is = refl; sound = record { fits = refl; types = tt; order = refl; members = refl } }

module _ (schema : Schema) (T : ℕ) (es : Entries) (sound : WellStored (ContentOf schema T es)) (differ : numbers_differ (known schema T) ≡ true) (n : ℕ) (f : Field) (found : field_of (known schema T) n ≡ Some f) (U : ℕ) (one : OneMessage f U) where
  valid_message : (w : Value) → value_valid f w ≡ true → value_passes fit_test w ≡ true → ValueTyped schema (kind_for (Some f) w) w → value_ordered w ≡ true → value_passes alone_test w ≡ true → Nested schema U w
  valid_message (ScalarValue v) h fits types o members = absurd (no_scalar f.value_type.kind one.names (and_parts (is_singular f.form) (kind_takes f.value_type.kind v) h).1)
    where
      no_scalar : (kind : Kind) → message_of_kind kind ≡ Some U → kind_takes kind v ≡ true → ⊥
      no_scalar (ScalarOf kind) e h = cc
      no_scalar (MessageOf V) e h = true≢false (sym h)
      no_scalar (GroupOf V) e h = true≢false (sym h)
  valid_message (MessageValue c) h fits types o members =
      let typed = field_typed schema f (MessageValue c) h types in
      record { content = c; is = refl; schema_is = typed.0.0; type_is = type_is f.value_type.kind U (type_of c) one.names typed.0.1; sound = record { fits = fits; types = typed.1; order = o; members = members } }
  valid_message (ListValue vs) h fits types o members = absurd (true≢false (sym (and_parts _ _ h).0 ∙ ap is_list one.form))
  valid_message (MapValue ps) h fits types o members = absurd (true≢false (sym h ∙ ap (λ form. pairs_valid form f.value_type.kind ps) one.form))

  pub nested_sound : (v : Value) → unwrap_or (value_at n es) (MessageValue (empty schema U)) ≡ v → Nested schema U v
  nested_sound v is = subst (Nested schema U) is (go (value_at n es) refl)
    where
      own : ℕ → Value → Bool
      own m w = passes (field_of (known schema T) m) (λ f. value_valid f w)

      fitting : SlotPasses fit_test (known schema T) own n (slot_at es n)
      fitting = passes_slots fit_test (known schema T) own (record { same = λ m w es. refl }) es n sound.fits

      go : (o : Option Value) → value_at n es ≡ o → Nested schema U (unwrap_or o (MessageValue (empty schema U)))
      go None e = empty_nested schema U
      go (Some w) e =
          let fits = and_parts (own n w) (value_passes fit_test w) (subst (OptionPasses fit_test (known schema T) own n) e fitting.value) in
          let types : ValueTyped schema (kind_for (field_of (known schema T) n) w) w = subst (OptionTyped schema (known schema T) n) e (typed_values schema (known schema T) es n sound.types) in
          valid_message w (ap (λ o. passes o (λ f. value_valid f w)) (sym found) ∙ fits.0) fits.1
          (subst (λ o. ValueTyped schema (kind_for o w) w) found types)
          (subst OrderedOption e (value_in_order n es sound.order))
          (inside_value alone_test (known schema T) es n w sound.members e)

-- ONE MORE MESSAGE

pub is_its_type : (kind : Kind) (U T : ℕ) → message_of_kind kind ≡ Some U → T ≡ U → is_of_type kind T ≡ true
is_its_type (ScalarOf kind) U T e same = cc
is_its_type (MessageOf V) U T e same = eq-eqb T V (let names : V ≡ U = cc in same ∙ sym names)
is_its_type (GroupOf V) U T e same = eq-eqb T V (let names : V ≡ U = cc in same ∙ sym names)

message_joined : (inner : MeansInside) (join : JoinsInside) (value_type : ValueType) (kind : Kind) (U : ℕ) (old : Option Value) (p : Payload) → message_of_kind kind ≡ Some U → one_joined inner join value_type kind old p ≡ Some (MessageValue (join (content_in inner U old) (records_in p)))
message_joined inner join value_type (ScalarOf kind) U old p e = cc
message_joined inner join value_type (MessageOf V) U old p e = ap (λ (V : ℕ). Some (MessageValue (join (content_in inner V old) (records_in p)))) (let names : V ≡ U = cc in names)
message_joined inner join value_type (GroupOf V) U old p e = ap (λ (V : ℕ). Some (MessageValue (join (content_in inner V old) (records_in p)))) (let names : V ≡ U = cc in names)

no_stray : (kind : Kind) (U : ℕ) (p : Payload) → message_of_kind kind ≡ Some U → is_stray kind p ≡ false
no_stray (ScalarOf kind) U p e = cc
no_stray (MessageOf V) U p e = refl
no_stray (GroupOf V) U p e = refl

below_nothing : (schema : Schema) (k U : ℕ) → below schema (suc k) U [] ≡ empty schema U
unfolding below
below_nothing schema k U = meaning_empty schema k U

further_steps : (k : ℕ) (c : Content) (rs : List Record) → further (suc k) c rs ≡ steps k c rs
unfolding further
further_steps k c rs = refl

pub allows_inside : (schema : Schema) (k T : ℕ) (rs : List Record) → inside schema (suc k) T rs ≡ allows schema k T rs
unfolding inside
allows_inside schema k T rs = refl

module _ (schema : Schema) (T : ℕ) (es : Entries) (sound : WellStored (ContentOf schema T es)) (differ : numbers_differ (known schema T) ≡ true) (f : Field) (found : field_of (known schema T) f.number ≡ Some f) (U : ℕ) (one : OneMessage f U)
    (c d : Content) (into : ReadInto schema U f.number es c) (schema_is : schema_of c ≡ schema) (type_same : type_of c ≡ U) (holds : Holds c d) where
  stored_message : ValueStored schema f (MessageValue d)
  stored_message =
      let w : WellStored d = holds.sound in
      let valid : value_valid f (MessageValue d) ≡ true = and_from _ _ (ap is_singular one.form) (message_kind f.value_type.kind U one.names) in
      record {
        valid = valid;
        fits = w.fits;
        types = typed_field schema f (MessageValue d) valid ((holds.schema ∙ schema_is, is_its_type f.value_type.kind U (type_of d) one.names (holds.type ∙ type_same)), w.types);
        order = w.order;
        members = w.members;
      }

  -- a payload with records that were read into the message
  message_read : (k : ℕ) (w : WireType) (p : Payload) (rs : List Record) (bytes rest : List ℕ) → ValueFront f.number w (suc k) p bytes rest → body p ≡ Some rs → one_allowed (inside schema (suc k)) f.value_type.kind p ≡ true → kept d ≡ steps k (kept c) rs →
      Step (suc k) f.number w (ContentOf schema T es) (ContentOf schema T (changed f.number (with_stored (known schema T) f (MessageValue d)) es)) bytes rest
  message_read k w p rs bytes rest front records allowed means =
      value_holds schema T es sound differ f found (MessageValue d) stored_message (suc k) w p bytes rest front
      (record { found = found; read = one_value_payload f p one.form (no_stray f.value_type.kind U p one.names); stays = no_stray_payload f p one.form (no_stray f.value_type.kind U p one.names) })
      (ap (λ form. field_allowed (suc k) (inside schema (suc k)) form f.value_type p) one.form ∙ allowed)
      (ap (λ form. value_joined (below schema (suc k)) (further (suc k)) form f.value_type (kept_old f (value_at f.number es)) p) one.form
      ∙ message_joined (below schema (suc k)) (further (suc k)) f.value_type f.value_type.kind U (kept_old f (value_at f.number es)) p one.names
      ∙ ap₂ (λ x rs. Some (MessageValue (further (suc k) x rs))) (content_before (below schema (suc k)) schema U f.number es f c one.form (below_nothing schema k U) into) (ap or_none records)
      ∙ ap (λ x. Some (MessageValue x)) (further_steps k (kept c) rs ∙ sym means)
      ∙ sym (kept_message f (kept d) one.form))

  allowed_inside : (k : ℕ) (rs : List Record) → allows (schema_of c) k (type_of c) rs ≡ true → inside schema (suc k) U rs ≡ true
  allowed_inside k rs h = allows_inside schema k U rs ∙ ap₂ (λ s T. allows s k T rs) (sym schema_is) (sym type_same) ∙ h

  -- a length and a body, which its records spell
  pub message_holds : (k : ℕ) (inside_bytes bytes rest : List ℕ) → f.value_type.kind ≡ MessageOf U → ReadTo k c d inside_bytes [] → DelimitedFront inside_bytes bytes rest →
      Step (suc k) f.number wires.LengthDelimited (ContentOf schema T es) (ContentOf schema T (changed f.number (with_stored (known schema T) f (MessageValue d)) es)) bytes rest
  message_holds k inside_bytes bytes rest kind done front =
      message_read k wires.LengthDelimited (Flat (Len inside_bytes)) done.records bytes rest (record { wire = refl; front = record { front = front.front; spelled = front.spelled; parts = front.parts }; within = omega arith }) records
      (ap (λ kind. one_allowed (inside schema (suc k)) kind (Flat (Len inside_bytes))) kind ∙ ap (λ o. passes o (inside schema (suc k) U)) records ∙ allowed_inside k done.records done.allowed) done.means
    where
      records : body (Flat (Len inside_bytes)) ≡ Some done.records
      records = ap (λ (o : Option Records). o >>= λ rs. Some (items rs)) (spelled_read (body_of done.records) inside_bytes (whole_spelled k c d inside_bytes done)) ∙ ap Some (items_body done.records)

  -- records up to the end key of the number
  pub group_holds : (k : ℕ) (bytes end rest : List ℕ) → f.value_type.kind ≡ GroupOf U → ReadTo k c d bytes end → KeyFront f.number wires.EndGroup end rest →
      Step (suc k) f.number wires.StartGroup (ContentOf schema T es) (ContentOf schema T (changed f.number (with_stored (known schema T) f (MessageValue d)) es)) bytes rest
  group_holds k bytes end rest kind done stop =
      let low : greatest_level done.records ≤ k = allowed_levels (schema_of c) k (type_of c) done.records done.allowed in
      let levels : raw_levels (body_of done.records) ≡ greatest_level done.records = sym (items_level (body_of done.records)) ∙ ap greatest_level (items_body done.records) in
      message_read k wires.StartGroup (Group (body_of done.records)) done.records bytes rest (record { wire = refl; front = record { end = end; records = done.front; stop = stop }; within = omega (arith, low, levels) }) records
      (ap (λ kind. one_allowed (inside schema (suc k)) kind (Group (body_of done.records))) kind ∙ ap (λ o. passes o (inside schema (suc k) U)) records ∙ allowed_inside k done.records done.allowed) done.means
    where
      records : body (Group (body_of done.records)) ≡ Some done.records
      records = ap Some (items_body done.records)

-- REFUSALS

-- the field of a number is of messages of the type, of one or of a list
pub record FoundNested (schema : Schema) (T n U : ℕ) (kind : Kind) : Type 0 where
  pub field : Field
  pub found : field_of (known schema T) n ≡ Some field
  pub form : is_map field.form ≡ false
  pub kind_is : field.value_type.kind ≡ kind
  pub names : message_of_kind kind ≡ Some U

pub takes_nested : (form : FieldForm) (kind : Kind) (U : ℕ) (w : WireType) → is_map form ≡ false → message_of_kind kind ≡ Some U → takes form kind w ≡ one_takes kind w
takes_nested Singular kind U w form e = refl
takes_nested (Repeated packed) (ScalarOf kind) U w form e = cc
takes_nested (Repeated packed) (MessageOf V) U w form e = or-false (one_takes (MessageOf V) w)
takes_nested (Repeated packed) (GroupOf V) U w form e = or-false (one_takes (GroupOf V) w)
takes_nested (MapFrom key) kind U w form e = absurd (true≢false form)

pub needs_nested : (form : FieldForm) (kind : Kind) (U : ℕ) (w : WireType) → is_map form ≡ false → message_of_kind kind ≡ Some U → needs_level form kind w ≡ one_takes kind w
needs_nested (MapFrom key) kind U w form e = absurd (true≢false form)
needs_nested Singular (ScalarOf kind) U w form e = cc
needs_nested Singular (MessageOf V) U w form e = refl
needs_nested Singular (GroupOf V) U w form e = refl
needs_nested (Repeated packed) (ScalarOf kind) U w form e = cc
needs_nested (Repeated packed) (MessageOf V) U w form e = refl
needs_nested (Repeated packed) (GroupOf V) U w form e = refl
