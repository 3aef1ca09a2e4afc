-- At a place there is a body, or a fault stands there.
use Rattle.std.specs.Prelude.{◌≡◌, ◌≢◌, ◌<◌, ◌≤◌, ◌&&◌, ◌||◌, ◌⊎◌, ◌∷◌}
use Rattle.prost_reflect_laws.proofs.Common.{ℕ, zero, suc, Bool, true, false, inl, inr, List, [], length, nat_eq, nat_le, Option, Some, None, refl, sym, ap, ap₂, subst, ◌∙◌, arith, length-append, true≢false, is_some, list_all, le-leb, eqb-true, eqb-false, ltb-false, and_parts, none-some, DecodeError, WireType, AreBytes, Plain, Len, Records, NoRecords, record_at, Payload, Flat, Group, before, items, payload_levels, plain_wire, payload_wire, read, ScalarKind, kind_wire, Kind, ScalarOf, MessageOf, GroupOf, ValueType, FieldForm, Singular, Repeated, MapFrom, Field, Schema, is_packable, is_message, passes, is_map, AllowsInside, body, one_allowed, packed_allowed, has_level, in_entry_allowed, field_allowed, unpacked, KeyFront, PlainFront, DelimitedFront, PayloadFront, KeyFault, PlainFault, Place, OfType, OfEntry, OfNothing, field_at, TextNext, PackedNext, same_wire, one_takes, packed_takes, takes, needs_level, opens_level, Stands, Here, Behind, InMessage, InGroup, InUnknown, InEntry, spelled_read, plain_delimited, delimited_plain, record_front, first_front, none_front, key_shorter, payload_no_longer, key_stands, end_stands, plain_stands, items_before}
use Rattle.prost_reflect_wire.specs.declared.error.DecodeError.TheVariants as errors
use Rattle.prost_reflect_wire.specs.declared.key.WireType.TheVariants as wires
use Rattle.prost_reflect_laws.proofs.BodyFronts.{key_bytes, payload_bytes, delimited_bytes}
use Rattle.prost_reflect_laws.proofs.Places.{inner, payload_allowed, allowed_at, allows_at, Ended, Body, body_spells, passes_body, levels_outside, entry_same, len_no_end}
use Rattle.prost_reflect_laws.proofs.FrontOrFault.{SomeFault, SomeKey, key_or, SomePlain, plain_or}
use Rattle.prost_reflect_laws.proofs.KindsAllowed.{same_is, kind_no_start, kind_no_end, BadText, wire_fits, one_field, packed_field, elements_or, element_name}

pub record SomeBody (schema : Schema) (place : Place) : Type 0 where
  pub records : Records
  pub rest : List ℕ
  pub body : Body schema place records rest

abbrev pub Faulty : Schema → Place → Type 0
Faulty schema place = SomeFault (λ e. Stands schema e place)

-- At places of fewer bytes there is a body or a fault.
abbrev pub Finds : Schema → ℕ → Type 0
Finds schema limit = (place : Place) → length place.bytes < limit → AreBytes place.bytes → SomeBody schema place ⊎ Faulty schema place

-- A payload of the wire type that is allowed at the place.
pub record SomePayload (schema : Schema) (place : Place) (n : ℕ) (w : WireType) (rest : List ℕ) : Type 0 where
  pub payload : Payload
  pub behind : List ℕ
  pub wire : payload_wire payload ≡ w
  pub front : PayloadFront n payload rest behind
  pub allowed : payload_allowed schema place n payload ≡ true

-- WHAT IS FOUND INSIDE

group_found : (schema : Schema) (there : Place) (n : ℕ) → there.open_group ≡ Some n → (x : SomeBody schema there) → PayloadFront n (Group x.records) there.bytes x.rest
group_found schema there n opened x = record { end = x.body.end; records = x.body.records; stop = subst (λ o. Ended o x.body.end x.rest) opened x.body.ends }

pub payload_known : (schema : Schema) (place : Place) (n : ℕ) (f : Field) (p : Payload) → field_at schema place.inside n ≡ Some f → field_allowed place.levels (inner schema place.levels) f.form f.value_type p ≡ true
    → payload_allowed schema place n p ≡ true
payload_known schema place n f p found h =
    ap (λ o. elim o [ None ↦ nat_le (payload_levels p) place.levels | Some g ↦ field_allowed place.levels (inner schema place.levels) g.form g.value_type p ]) found ∙ h

pub payload_unknown : (schema : Schema) (place : Place) (n : ℕ) (p : Payload) → field_at schema place.inside n ≡ None → payload_levels p ≤ place.levels → payload_allowed schema place n p ≡ true
payload_unknown schema place n p found h =
    ap (λ o. elim o [ None ↦ nat_le (payload_levels p) place.levels | Some g ↦ field_allowed place.levels (inner schema place.levels) g.form g.value_type p ]) found ∙ le-leb (payload_levels p) place.levels h

-- FAULTS BEHIND A KEY

pub opens_known : (form : FieldForm) (kind : Kind) (w : WireType) → is_map form ≡ false → is_message kind ≡ true → one_takes kind w ≡ true → needs_level form kind w ≡ true
opens_known Singular (ScalarOf kind) w m is h = is
opens_known Singular (MessageOf T) w m is h = h
opens_known Singular (GroupOf T) w m is h = h
opens_known (Repeated packed) (ScalarOf kind) w m is h = is
opens_known (Repeated packed) (MessageOf T) w m is h = h
opens_known (Repeated packed) (GroupOf T) w m is h = h
opens_known (MapFrom key) kind w m is h = absurd (true≢false m)

pub no_level : (k : ℕ) (kind : Kind) → has_level k kind ≡ false → (k ≡ 0) × (is_message kind ≡ true)
no_level k (ScalarOf kind) h = absurd (true≢false h)
no_level k (MessageOf T) h = (let le : k ≤ 0 = ltb-false 0 k h in omega arith, refl)
no_level k (GroupOf T) h = (let le : k ≤ 0 = ltb-false 0 k h in omega arith, refl)

module _ (schema : Schema) (place : Place) (n : ℕ) (w : WireType) (rest : List ℕ) (key : KeyFront n w place.bytes rest) where
  deep_fault : place.levels ≡ 0 → opens_level (field_at schema place.inside n) w ≡ true → Faulty schema place
  deep_fault none opens = record { error = errors.Depth; fault = Here (none, record { number = n; wire = w; rest = rest; key = key; behind = opens }) }

  plain_fault : SomeFault (λ e. PlainFault e w rest) → Faulty schema place
  plain_fault f = record { error = f.error; fault = plain_stands schema place f.error n w rest key f.fault }

  module _ (f : Field) (found : field_at schema place.inside n ≡ Some f) where
    wire_fault : w ≢ wires.EndGroup → takes f.form f.value_type.kind w ≡ false → Faulty schema place
    wire_fault other none = record { error = errors.WireType; fault = Here (record { number = n; wire = w; field = f; rest = rest; key = key; found = found; behind = (other, none) }) }

    text_fault : TextNext f w rest → Faulty schema place
    text_fault t = record { error = errors.Utf8; fault = Here (record { number = n; wire = w; field = f; rest = rest; key = key; found = found; behind = t }) }

    packed_named : (e : DecodeError) → (e ≡ errors.Truncated) ⊎ (e ≡ errors.Varint) → PackedNext e f w rest → Faulty schema place
    packed_named e (inl is) p =
        record { error = errors.Truncated; fault = Here (inr (inr (inr (record { number = n; wire = w; field = f; rest = rest; key = key; found = found; behind = subst (λ x. PackedNext x f w rest) is p })))) }
    packed_named e (inr is) p =
        record { error = errors.Varint; fault = Here (inr (inr (record { number = n; wire = w; field = f; rest = rest; key = key; found = found; behind = subst (λ x. PackedNext x f w rest) is p }))) }

    packed_fault : (e : DecodeError) → PackedNext e f w rest → Faulty schema place
    packed_fault e p = let (_, _, (kind, _, _, (body, after, _, fault))) = p in packed_named e (element_name (kind_wire kind) fault) p

    deep_known : is_map f.form ≡ false → is_message f.value_type.kind ≡ true → one_takes f.value_type.kind w ≡ true → place.levels ≡ 0 → Faulty schema place
    deep_known m is h none = deep_fault none (ap (λ o. opens_level o w) found ∙ opens_known f.form f.value_type.kind w m is h)

-- VALUES BEHIND A KEY

-- what is done with each of two outcomes
either : {A B C : Type 0} → (A → C) → (B → C) → A ⊎ B → C
either f g (inl a) = f a
either f g (inr b) = g b

pub body_shorter : (body bytes rest : List ℕ) → DelimitedFront body bytes rest → length body ≤ length bytes
body_shorter body bytes rest d =
    let (len, _, whole) = d.spelled in omega (arith, ap length d.parts, length-append d.front rest, ap length whole, length-append len body)

-- a delimited payload
record SomeDelimited (bytes : List ℕ) : Type 0 where
  body : List ℕ
  after : List ℕ
  front : DelimitedFront body bytes after

delimited_of : (bytes : List ℕ) → SomePlain wires.LengthDelimited bytes → SomeDelimited bytes
delimited_of bytes x = go x.plain x.wire x.front
  where
    go : (p : Plain) → plain_wire p ≡ wires.LengthDelimited → PlainFront p bytes x.rest → SomeDelimited bytes
    go (Len b) e f = record { body = b; after = x.rest; front = plain_delimited b bytes x.rest f }
    go p e f = absurd cc

len_no_start : wires.LengthDelimited ≢ wires.StartGroup
len_no_start e = cc

delimited_or : (bytes : List ℕ) → AreBytes bytes → SomeDelimited bytes ⊎ SomeFault (λ e. PlainFault e wires.LengthDelimited bytes)
delimited_or bytes small = either (λ x. inl (delimited_of bytes x)) inr (plain_or wires.LengthDelimited bytes len_no_start len_no_end small)

module _ (schema : Schema) (place : Place) (small : AreBytes place.bytes) (limit : ℕ) (finds : Finds schema limit) (within : length place.bytes ≤ limit) (n : ℕ) (rest : List ℕ) where
  abbrev Outcome : WireType → Type 0
  Outcome w = SomePayload schema place n w rest ⊎ Faulty schema place

  -- a record of a number that is not known
  unknown_plain : (w : WireType) → KeyFront n w place.bytes rest → field_at schema place.inside n ≡ None → w ≢ wires.StartGroup → w ≢ wires.EndGroup → Outcome w
  unknown_plain w key none start end = elim (plain_or w rest start end (key_bytes n w place.bytes rest small key)) [
    | inr f ↦ inr (plain_fault schema place n w rest key f)
    | inl x ↦ inl (record { payload = Flat x.plain; behind = x.rest; wire = x.wire; front = x.front; allowed = payload_unknown schema place n (Flat x.plain) none (omega arith) })
  ]

  module _ (key : KeyFront n wires.StartGroup place.bytes rest) where
    start_within : length rest < limit
    start_within = let less = key_shorter n wires.StartGroup place.bytes rest key in omega arith

    unknown_group : (k : ℕ) → place.levels ≡ k → field_at schema place.inside n ≡ None → Outcome wires.StartGroup
    unknown_group zero left none = inr (deep_fault schema place n wires.StartGroup rest key left (ap (λ o. opens_level o wires.StartGroup) none))
    unknown_group (suc k) left none = elim (finds (record { bytes = rest; inside = OfNothing; levels = k; open_group = Some n }) start_within (key_bytes n wires.StartGroup place.bytes rest small key)) [
      | inr f ↦ inr (record { error = f.error; fault = InUnknown n k rest none left key f.fault })
      | inl x ↦ inl (record {
        payload = Group x.records;
        behind = x.rest;
        wire = refl;
        front = group_found schema (record { bytes = rest; inside = OfNothing; levels = k; open_group = Some n }) n refl x;
        allowed = payload_unknown schema place n (Group x.records) none (omega (arith, left, levels_outside k x.records x.body.allowed));
      })
    ]

    known_group : (k T : ℕ) (f : Field) → place.levels ≡ k → field_at schema place.inside n ≡ Some f → is_map f.form ≡ false → f.value_type.kind ≡ GroupOf T → Outcome wires.StartGroup
    known_group zero T f left found m is =
        inr (deep_known schema place n wires.StartGroup rest key f found m (ap is_message is) (ap (λ c. one_takes c wires.StartGroup) is) left)
    known_group (suc k) T f left found m is = elim (finds (record { bytes = rest; inside = OfType T; levels = k; open_group = Some n }) start_within (key_bytes n wires.StartGroup place.bytes rest small key)) [
      | inr g ↦ inr (record { error = g.error; fault = InGroup n T k f rest found m is left key g.fault })
      | inl x ↦
          let there : Place = record { bytes = rest; inside = OfType T; levels = k; open_group = Some n } in
          let inside : inner schema place.levels T (items x.records) ≡ true = ap (λ (l : ℕ). inner schema l T (items x.records)) left ∙ allows_at schema there T (items x.records) refl ∙ x.body.allowed in
          let one : one_allowed (inner schema place.levels) f.value_type.kind (Group x.records) ≡ true = ap (λ c. one_allowed (inner schema place.levels) c (Group x.records)) is ∙ inside in
          inl (record {
            payload = Group x.records;
            behind = x.rest;
            wire = refl;
            front = group_found schema there n refl x;
            allowed = payload_known schema place n f (Group x.records) found (one_field place.levels (inner schema place.levels) f.form f.value_type (Group x.records) m one);
          })
    ]

  module _ (key : KeyFront n wires.LengthDelimited place.bytes rest) where
    small_rest : AreBytes rest
    small_rest = key_bytes n wires.LengthDelimited place.bytes rest small key

    body_within : (d : SomeDelimited rest) → length d.body < limit
    body_within d =
        let less = key_shorter n wires.LengthDelimited place.bytes rest key in
        let part = body_shorter d.body rest d.after d.front in
        omega arith

    len_payload_of : (d : SomeDelimited rest) → payload_allowed schema place n (Flat (Len d.body)) ≡ true → SomePayload schema place n wires.LengthDelimited rest
    len_payload_of d allowed = record { payload = Flat (Len d.body); behind = d.after; wire = refl; front = delimited_plain d.body rest d.after d.front; allowed = allowed }

    -- the records inside, in the place of a body
    read_inside : (there : Place) → there.open_group ≡ None → (x : SomeBody schema there) → read there.bytes ≡ Some x.records
    read_inside there opened x = spelled_read x.records there.bytes (body_spells schema there x.records x.rest opened x.body)

    message_inside : (k T : ℕ) (f : Field) → place.levels ≡ suc k → field_at schema place.inside n ≡ Some f → is_map f.form ≡ false → f.value_type.kind ≡ MessageOf T → SomeDelimited rest → Outcome wires.LengthDelimited
    message_inside k T f left found m is d = elim (finds (record { bytes = d.body; inside = OfType T; levels = k; open_group = None }) (body_within d) (delimited_bytes d.body rest d.after small_rest d.front)) [
      | inr g ↦ inr (record { error = g.error; fault = InMessage n T k f d.body rest d.after found m is left key d.front g.fault })
      | inl x ↦
          let there : Place = record { bytes = d.body; inside = OfType T; levels = k; open_group = None } in
          let inside : inner schema place.levels T (items x.records) ≡ true = ap (λ (l : ℕ). inner schema l T (items x.records)) left ∙ allows_at schema there T (items x.records) refl ∙ x.body.allowed in
          let one : one_allowed (inner schema place.levels) f.value_type.kind (Flat (Len d.body)) ≡ true =
          ap (λ c. one_allowed (inner schema place.levels) c (Flat (Len d.body))) is ∙ passes_body d.body x.records (inner schema place.levels T) (read_inside there refl x) inside in
          inl (len_payload_of d (payload_known schema place n f (Flat (Len d.body)) found (one_field place.levels (inner schema place.levels) f.form f.value_type (Flat (Len d.body)) m one)))
    ]

    known_message : (k T : ℕ) (f : Field) → place.levels ≡ k → field_at schema place.inside n ≡ Some f → is_map f.form ≡ false → f.value_type.kind ≡ MessageOf T → Outcome wires.LengthDelimited
    known_message zero T f left found m is =
        inr (deep_known schema place n wires.LengthDelimited rest key f found m (ap is_message is) (ap (λ c. one_takes c wires.LengthDelimited) is) left)
    known_message (suc k) T f left found m is = either (message_inside k T f left found m is) (λ f. inr (plain_fault schema place n wires.LengthDelimited rest key f)) (delimited_or rest small_rest)

    map_allows : (k : ℕ) (inner : AllowsInside) (form : FieldForm) (key_type value_type : ValueType) (bytes : List ℕ) → form ≡ MapFrom key_type → has_level k value_type.kind ≡ true →
        passes (body (Flat (Len bytes))) (list_all (in_entry_allowed k inner key_type value_type)) ≡ true → field_allowed k inner form value_type (Flat (Len bytes)) ≡ true
    map_allows k inner form key_type value_type bytes is level inside =
        ap (λ c. field_allowed k inner c value_type (Flat (Len bytes))) is ∙ ap (λ b. b && passes (body (Flat (Len bytes))) (list_all (in_entry_allowed k inner key_type value_type))) level ∙ inside

    entry_inside : (f : Field) (key_type : ValueType) → field_at schema place.inside n ≡ Some f → f.form ≡ MapFrom key_type → has_level place.levels f.value_type.kind ≡ true → SomeDelimited rest → Outcome wires.LengthDelimited
    entry_inside f key_type found is level d = elim (finds (record { bytes = d.body; inside = OfEntry key_type f.value_type; levels = place.levels; open_group = None }) (body_within d) (delimited_bytes d.body rest d.after small_rest d.front)) [
      | inr g ↦ inr (record { error = g.error; fault = InEntry n f key_type d.body rest d.after found is level key d.front g.fault })
      | inl x ↦
          let there : Place = record { bytes = d.body; inside = OfEntry key_type f.value_type; levels = place.levels; open_group = None } in
          let inside : list_all (in_entry_allowed place.levels (inner schema place.levels) key_type f.value_type) (items x.records) ≡ true = entry_same schema there key_type f.value_type (items x.records) refl ∙ x.body.allowed in
          let allowed = map_allows place.levels (inner schema place.levels) f.form key_type f.value_type d.body is level
          (passes_body d.body x.records (list_all (in_entry_allowed place.levels (inner schema place.levels) key_type f.value_type)) (read_inside there refl x) inside) in
          inl (len_payload_of d (payload_known schema place n f (Flat (Len d.body)) found allowed))
    ]

    known_map : (f : Field) (key_type : ValueType) → field_at schema place.inside n ≡ Some f → f.form ≡ MapFrom key_type → Outcome wires.LengthDelimited
    known_map f key_type found is = go (has_level place.levels f.value_type.kind) refl
      where
        go : (b : Bool) → has_level place.levels f.value_type.kind ≡ b → Outcome wires.LengthDelimited
        go true level = either (entry_inside f key_type found is level) (λ f. inr (plain_fault schema place n wires.LengthDelimited rest key f)) (delimited_or rest small_rest)
        go false level =
            let (none, message) = no_level place.levels f.value_type.kind level in
            let opens : opens_level (field_at schema place.inside n) wires.LengthDelimited ≡ true =
            ap (λ o. opens_level o wires.LengthDelimited) found ∙ ap (λ c. needs_level c f.value_type.kind wires.LengthDelimited) is ∙ ap (λ b. b && true) message in
            inr (deep_fault schema place n wires.LengthDelimited rest key none opens)

    packed_inside : (f : Field) (packed : Bool) (kind : ScalarKind) → field_at schema place.inside n ≡ Some f → f.form ≡ Repeated packed → f.value_type.kind ≡ ScalarOf kind → is_packable kind ≡ true → SomeDelimited rest → Outcome wires.LengthDelimited
    unfolding unpacked
    packed_inside f packed kind found form is packable d =
        elim (elements_or (suc (length d.body)) (kind_wire kind) d.body (kind_no_start kind) (kind_no_end kind) (delimited_bytes d.body rest d.after small_rest d.front) (omega arith)) [
          | inr g ↦ inr (packed_fault schema place n wires.LengthDelimited rest key f found g.error (refl, (packed, form), (kind, is, packable, (d.body, d.after, d.front, g.fault))))
          | inl x ↦
              let some : packed_allowed (ScalarOf kind) (Flat (Len d.body)) ≡ true = ap₂ ◌&&◌ packable (ap is_some x.found) in
              let allowed : field_allowed place.levels (inner schema place.levels) f.form f.value_type (Flat (Len d.body)) ≡ true =
              ap (λ c. field_allowed place.levels (inner schema place.levels) c f.value_type (Flat (Len d.body))) form
              ∙ packed_field place.levels (inner schema place.levels) packed f.value_type (Flat (Len d.body)) (ap (λ c. packed_allowed c (Flat (Len d.body))) is ∙ some) in
              inl (len_payload_of d (payload_known schema place n f (Flat (Len d.body)) found allowed))
        ]

    known_packed : (f : Field) (packed : Bool) (kind : ScalarKind) → field_at schema place.inside n ≡ Some f → f.form ≡ Repeated packed → f.value_type.kind ≡ ScalarOf kind → is_packable kind ≡ true → Outcome wires.LengthDelimited
    known_packed f packed kind found form is packable =
        either (packed_inside f packed kind found form is packable) (λ f. inr (plain_fault schema place n wires.LengthDelimited rest key f)) (delimited_or rest small_rest)

  known_scalar : (kind : ScalarKind) (f : Field) → KeyFront n (kind_wire kind) place.bytes rest → field_at schema place.inside n ≡ Some f → is_map f.form ≡ false → f.value_type.kind ≡ ScalarOf kind → Outcome (kind_wire kind)
  known_scalar kind f key found m is = either fits (λ g. inr (plain_fault schema place n (kind_wire kind) rest key g)) (plain_or (kind_wire kind) rest (kind_no_start kind) (kind_no_end kind) (key_bytes n (kind_wire kind) place.bytes rest small key))
    where
      text : (x : SomePlain (kind_wire kind) rest) → BadText kind x.plain → TextNext f (kind_wire kind) rest
      text x bad =
          let front : PlainFront (Len bad.body) rest x.rest = subst (λ p. PlainFront p rest x.rest) bad.delimited x.front in
          (ap kind_wire bad.text, m, is ∙ ap ScalarOf bad.text, (bad.body, x.rest, plain_delimited bad.body rest x.rest front, bad.bad))

      fits : SomePlain (kind_wire kind) rest → Outcome (kind_wire kind)
      fits x = elim (wire_fits kind x.plain x.wire) [
        | inr bad ↦ inr (text_fault schema place n (kind_wire kind) rest key f found (text x bad))
        | inl good ↦
            let one : one_allowed (inner schema place.levels) f.value_type.kind (Flat x.plain) ≡ true = ap (λ c. one_allowed (inner schema place.levels) c (Flat x.plain)) is ∙ good in
            inl (record {
              payload = Flat x.plain;
              behind = x.rest;
              wire = x.wire;
              front = x.front;
              allowed = payload_known schema place n f (Flat x.plain) found (one_field place.levels (inner schema place.levels) f.form f.value_type (Flat x.plain) m one);
            })
      ]

  -- at a wire type that is another by name
  at_wire : (w v : WireType) → KeyFront n w place.bytes rest → same_wire w v ≡ true → (KeyFront n v place.bytes rest → Outcome v) → Outcome w
  at_wire w v key same g = let is : w ≡ v = same_is w v same in subst Outcome (sym is) (g (subst (λ x. KeyFront n x place.bytes rest) is key))

  known_one : (w : WireType) → KeyFront n w place.bytes rest → (kind : Kind) (f : Field) → field_at schema place.inside n ≡ Some f → is_map f.form ≡ false → f.value_type.kind ≡ kind → one_takes kind w ≡ true → Outcome w
  known_one w key (ScalarOf kind) f found m is h = at_wire w (kind_wire kind) key h (λ k. known_scalar kind f k found m is)
  known_one w key (MessageOf T) f found m is h = at_wire w wires.LengthDelimited key h (λ k. known_message k place.levels T f refl found m is)
  known_one w key (GroupOf T) f found m is h = at_wire w wires.StartGroup key h (λ k. known_group k place.levels T f refl found m is)

  repeated_packed : (w : WireType) → KeyFront n w place.bytes rest → (packed : Bool) (kind : Kind) (f : Field) → field_at schema place.inside n ≡ Some f → f.form ≡ Repeated packed → f.value_type.kind ≡ kind → packed_takes kind w ≡ true → Outcome w
  repeated_packed w key packed (ScalarOf kind) f found form is h =
      let (packable, same) = and_parts (is_packable kind) (same_wire w wires.LengthDelimited) h in at_wire w wires.LengthDelimited key same (λ k. known_packed k f packed kind found form is packable)
  repeated_packed w key packed _ f found form is h = absurd (true≢false (sym h))

  known_field : (w : WireType) → KeyFront n w place.bytes rest → (f : Field) → field_at schema place.inside n ≡ Some f → takes f.form f.value_type.kind w ≡ true → Outcome w
  known_field w key f found h = go f.form refl
    where
      taken : (form : FieldForm) → f.form ≡ form → takes form f.value_type.kind w ≡ true
      taken form is = ap (λ c. takes c f.value_type.kind w) (sym is) ∙ h

      or_packed : (packed : Bool) → f.form ≡ Repeated packed → (b : Bool) → one_takes f.value_type.kind w ≡ b → Outcome w
      or_packed packed is true e = known_one w key f.value_type.kind f found (ap is_map is) refl e
      or_packed packed is false e = repeated_packed w key packed f.value_type.kind f found is refl (sym (ap (λ b. b || packed_takes f.value_type.kind w) e) ∙ taken (Repeated packed) is)

      go : (form : FieldForm) → f.form ≡ form → Outcome w
      go Singular is = known_one w key f.value_type.kind f found (ap is_map is) refl (taken Singular is)
      go (Repeated packed) is = or_packed packed is (one_takes f.value_type.kind w) refl
      go (MapFrom key_type) is = at_wire w wires.LengthDelimited key (taken (MapFrom key_type) is) (λ k. known_map k f key_type found is)

  -- Behind a key that is no end key there is a payload that is allowed, or a fault.
  pub payload_or : (w : WireType) → w ≢ wires.EndGroup → KeyFront n w place.bytes rest → Outcome w
  payload_or w other key = go (field_at schema place.inside n) refl
    where
      known : (f : Field) → field_at schema place.inside n ≡ Some f → (b : Bool) → takes f.form f.value_type.kind w ≡ b → Outcome w
      known f found true e = known_field w key f found e
      known f found false e = inr (wire_fault schema place n w rest key f found other e)

      unknown : field_at schema place.inside n ≡ None → (b : Bool) → same_wire w wires.StartGroup ≡ b → Outcome w
      unknown none true e = at_wire w wires.StartGroup key e (λ k. unknown_group k place.levels refl none)
      unknown none false e = unknown_plain w key none (λ is. true≢false (sym (ap (λ v. same_wire v wires.StartGroup) is) ∙ e)) other

      go : (o : Option Field) → field_at schema place.inside n ≡ o → Outcome w
      go None none = unknown none (same_wire w wires.StartGroup) refl
      go (Some f) found = known f found (takes f.form f.value_type.kind w) refl

-- AT A PLACE

-- A body behind a record that is allowed.
pub body_before : (schema : Schema) (place : Place) (n : ℕ) (p : Payload) (mid behind : List ℕ) → AreBytes place.bytes → KeyFront n (payload_wire p) place.bytes mid → PayloadFront n p mid behind → payload_allowed schema place n p ≡ true
    → (rs : Records) (rest : List ℕ) → Body schema (record place { bytes = behind }) rs rest → Body schema place (before (record_at n p) rs) rest
body_before schema place n p mid behind small key front allowed rs rest x = record {
  small = small;
  end = x.end;
  records = first_front (record_at n p) rs place.bytes behind x.end (record_front n p place.bytes mid behind key front) x.records;
  ends = x.ends;
  allowed = ap (list_all (allowed_at schema place)) (items_before (record_at n p) rs) ∙ ap₂ ◌&&◌ allowed x.allowed;
}

first_body : (schema : Schema) (place : Place) (n : ℕ) (p : Payload) (mid behind : List ℕ) → AreBytes place.bytes → KeyFront n (payload_wire p) place.bytes mid → PayloadFront n p mid behind → payload_allowed schema place n p ≡ true
    → SomeBody schema (record place { bytes = behind }) → SomeBody schema place
first_body schema place n p mid behind small key front allowed x =
    record { records = before (record_at n p) x.records; rest = x.rest; body = body_before schema place n p mid behind small key front allowed x.records x.rest x.body }

module _ (schema : Schema) (place : Place) (small : AreBytes place.bytes) (limit : ℕ) (finds : Finds schema limit) (within : length place.bytes ≤ limit) where
  -- nothing is left, and no group is open
  at_end : place.bytes ≡ [] → place.open_group ≡ None → SomeBody schema place
  at_end empty closed = record {
    records = NoRecords;
    rest = [];
    body = record { small = small; end = place.bytes; records = none_front place.bytes; ends = subst (λ o. Ended o place.bytes []) (sym closed) (empty, refl); allowed = refl };
  }

  at_stop : (n : ℕ) (rest : List ℕ) → place.open_group ≡ Some n → KeyFront n wires.EndGroup place.bytes rest → SomeBody schema place
  at_stop n rest opened key = record {
    records = NoRecords;
    rest = rest;
    body = record { small = small; end = place.bytes; records = none_front place.bytes; ends = subst (λ o. Ended o place.bytes rest) (sym opened) key; allowed = refl };
  }

  no_key : (bytes : List ℕ) → place.bytes ≡ bytes → (o : Option ℕ) → place.open_group ≡ o → SomeFault (λ e. KeyFault e place.bytes) → SomeBody schema place ⊎ Faulty schema place
  no_key [] empty None closed f = inl (at_end empty closed)
  no_key [] empty (Some n) opened f = inr (record { error = f.error; fault = key_stands schema place f.error f.fault (λ _ none. absurd (none-some _ (sym (sym opened ∙ none)))) })
  no_key (b ∷ bytes) is o opened f = inr (record { error = f.error; fault = key_stands schema place f.error f.fault (λ empty. absurd (let both : ◌≡◌ {A = List ℕ} (b ∷ bytes) [] = sym is ∙ empty in cc)) })

  end_key : (n : ℕ) (rest : List ℕ) → KeyFront n wires.EndGroup place.bytes rest → (o : Option ℕ) → place.open_group ≡ o → SomeBody schema place ⊎ Faulty schema place
  end_key n rest key None closed = inr (record { error = errors.EndGroup; fault = end_stands schema place n rest key (λ opened. absurd (let both : ◌≡◌ {A = Option ℕ} None (Some n) = sym closed ∙ opened in cc)) })
  end_key n rest key (Some m) opened = go (nat_eq n m) refl
    where
      go : (b : Bool) → nat_eq n m ≡ b → SomeBody schema place ⊎ Faulty schema place
      go true e = inl (at_stop m rest opened (subst (λ (x : ℕ). KeyFront x wires.EndGroup place.bytes rest) (eqb-true n m e) key))
      go false e = inr (record { error = errors.EndGroup; fault = end_stands schema place n rest key (λ other. eqb-false n m e (inside (sym other ∙ opened))) })
        where
          inside : ◌≡◌ {A = Option ℕ} (Some n) (Some m) → n ≡ m
          inside e = cc

  with_payload : (n : ℕ) (w : WireType) (rest : List ℕ) → KeyFront n w place.bytes rest → SomePayload schema place n w rest → SomeBody schema place ⊎ Faulty schema place
  with_payload n w rest key x =
      let k : KeyFront n (payload_wire x.payload) place.bytes rest = subst (λ v. KeyFront n v place.bytes rest) (sym x.wire) key in
      let less : length x.behind < limit = omega (arith, key_shorter n w place.bytes rest key, payload_no_longer n x.payload rest x.behind x.front, within) in
      let bytes : AreBytes x.behind = payload_bytes n x.payload rest x.behind (key_bytes n w place.bytes rest small key) x.front in
      elim (finds (record place { bytes = x.behind }) less bytes) [
        | inl more ↦ inl (first_body schema place n x.payload rest x.behind small k x.front x.allowed more)
        | inr f ↦ inr (record { error = f.error; fault = Behind (record_at n x.payload) x.behind (record_front n x.payload place.bytes rest x.behind k x.front) f.fault })
      ]

  with_key : (x : SomeKey place.bytes) → (b : Bool) → same_wire x.wire wires.EndGroup ≡ b → SomeBody schema place ⊎ Faulty schema place
  with_key x true e = end_key x.number x.rest (subst (λ w. KeyFront x.number w place.bytes x.rest) (same_is x.wire wires.EndGroup e) x.front) place.open_group refl
  with_key x false e =
      either (with_payload x.number x.wire x.rest x.front) inr
      (payload_or schema place small limit finds within x.number x.rest x.wire (λ is. true≢false (sym (ap (λ v. same_wire v wires.EndGroup) is) ∙ e)) x.front)

  step : SomeBody schema place ⊎ Faulty schema place
  step = either (λ x. with_key x (same_wire x.wire wires.EndGroup) refl) (no_key place.bytes refl place.open_group refl) (key_or place.bytes small)

-- At each place there is a body, or a fault stands there.
pub body_or_fault : (schema : Schema) (limit : ℕ) → Finds schema limit
body_or_fault schema zero place less small = absurd (omega arith)
body_or_fault schema (suc limit) place less small = step schema place small limit (body_or_fault schema limit) (omega arith)
