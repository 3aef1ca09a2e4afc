-- Where a body stands, no fault stands.
use Rattle.std.specs.Prelude.{◌≡◌, ◌≢◌, ◌<◌, ◌≤◌, ◌∷◌, ◌++◌}
use Rattle.prost_reflect_laws.proofs.Common.{ℕ, zero, suc, Bool, true, false, inl, inr, List, [], length, nat_le, Option, Some, None, refl, sym, ap, subst, ◌∙◌, arith, length-append, true≢false, leb-true, and_parts, is_some, none-some, DecodeError, WireType, AreBytes, Varint, ◌>>=◌, Plain, Var, Fix64, Len, Fix32, Record, Payload, Flat, Group, payload_levels, wire_code, plain_wire, payload_wire, plain_at, StringKind, kind_wire, Kind, ScalarOf, MessageOf, GroupOf, ValueType, FieldForm, Singular, Repeated, MapFrom, Field, Schema, is_message, passes, is_map, AllowsInside, body, has_level, field_allowed, nothing_inside, plains_within, unpacked, KeyFront, PlainFront, DelimitedFront, PayloadFront, PayloadEnds, PayloadPasses, PlainFault, KeyFault, VarintPasses, NoKey, Place, field_at, Next, NextField, ElementFault, ElementEnds, ElementPasses, BehindElement, TextNext, PackedNext, same_wire, takes, needs_level, opens_level, Comes, bind_ok, plain_sound, key_once, key_no_fault, plain_once, plain_no_fault, delimited_once, plain_delimited}
use Rattle.prost_reflect_wire.specs.declared.error.DecodeError.TheVariants as errors
use Rattle.prost_reflect_wire.specs.declared.key.WireType.TheVariants as wires
use Rattle.prost_reflect_laws.proofs.BodyFronts.{payload_no_end, key_not_empty, key_bytes, plain_bytes, delimited_bytes}
use Rattle.prost_reflect_laws.proofs.Places.{inner, payload_allowed, NextRecord, EndNext, AtEnd, AtStop}
use Rattle.prost_reflect_laws.proofs.KindsTaken.{not_both, one_or_packed, allowed_one, text_allowed, unpacked_allowed, map_allowed, message_allowed, group_allowed, field_taken}

-- AMONG ELEMENTS

plain_found : (w : WireType) (bytes : List ℕ) (p : Plain) (rest : List ℕ) → AreBytes bytes → plain_at w bytes ≡ Some (p, rest) → PlainFront p bytes rest × (plain_wire p ≡ w)
plain_found w bytes p rest small e = let f = plain_sound w bytes p rest small e in (record { front = f.front; spelled = f.spells; parts = f.whole }, sym f.wired)

front_no_fault : (e : DecodeError) (w : WireType) (bytes : List ℕ) (p : Plain) (rest : List ℕ) → PlainFront p bytes rest → plain_wire p ≡ w → PlainFault e w bytes → ⊥
front_no_fault e w bytes p rest f is h = plain_no_fault e p bytes rest f (subst (λ v. PlainFault e v bytes) (sym is) h)

-- the payloads at the front, and the others
record PlainsFirst (fuel : ℕ) (w : WireType) (bytes : List ℕ) : Type 0 where
  plain : Plain
  rest : List ℕ
  plains : List Plain
  front : PlainFront plain bytes rest
  wire : plain_wire plain ≡ w
  behind : plains_within fuel w rest ≡ Some plains

plains_first : (fuel : ℕ) (w : WireType) (b : ℕ) (bytes : List ℕ) (ps : List Plain) → AreBytes (b ∷ bytes) → plains_within (suc fuel) w (b ∷ bytes) ≡ Some ps → PlainsFirst fuel w (b ∷ bytes)
plains_first fuel w b bytes ps small h =
    let (p, m, g) = bind_ok (λ p. plains_within fuel w p.1 >>= λ rest. Some (p.0 ∷ rest)) (plain_at w (b ∷ bytes)) ps h in
    let (qs, n, _) = bind_ok (λ rest. Some (p.0 ∷ rest)) (plains_within fuel w p.1) ps g in
    let (f, is) = plain_found w (b ∷ bytes) p.0 p.1 small m in
    record { plain = p.0; rest = p.1; plains = qs; front = f; wire = is; behind = n }

past_end : VarintPasses [] → ⊥
past_end h = omega (arith, ap length h.parts, length-append h.nine (h.tenth ∷ h.rest))

ends_empty : (p : Plain) → PayloadEnds (plain_wire p) []
ends_empty (Var v) = record { few = omega arith; unended = tt }
ends_empty (Fix64 b) = omega arith
ends_empty (Len b) = inl (record { few = omega arith; unended = tt })
ends_empty (Fix32 b) = omega arith

plain_not_empty : (p : Plain) (rest : List ℕ) → PlainFront p [] rest → ⊥
plain_not_empty p rest f = plain_no_fault errors.Truncated p [] rest f (ends_empty p)

none_passes : (w : WireType) → PayloadPasses w [] → ⊥
none_passes wires.Varint h = past_end h
none_passes wires.LengthDelimited h = past_end h
none_passes w h = elim h [ ]

elements_no_fault : (w : WireType) {e : DecodeError} {bytes : List ℕ} → ElementFault w e bytes → (fuel : ℕ) (ps : List Plain) → AreBytes bytes → plains_within fuel w bytes ≡ Some ps → ⊥
elements_no_fault w f zero ps small h = none-some _ h
elements_no_fault w (ElementEnds {b} {bytes} ends) (suc fuel) ps small h =
    let x : PlainsFirst fuel w (b ∷ bytes) = plains_first fuel w b bytes ps small h in front_no_fault errors.Truncated w (b ∷ bytes) x.plain x.rest x.front x.wire ends
elements_no_fault w (ElementPasses {bytes} passes) (suc fuel) ps small h = go bytes passes small h
  where
    go : (bytes : List ℕ) → PayloadPasses w bytes → AreBytes bytes → plains_within (suc fuel) w bytes ≡ Some ps → ⊥
    go [] passes small h = none_passes w passes
    go (b ∷ bytes) passes small h = let x : PlainsFirst fuel w (b ∷ bytes) = plains_first fuel w b bytes ps small h in front_no_fault errors.Varint w (b ∷ bytes) x.plain x.rest x.front x.wire passes
elements_no_fault w (BehindElement {bytes} p rest front is stands) (suc fuel) ps small h = go bytes front small h (λ ps small h. elements_no_fault w stands fuel ps small h)
  where
    go : (bytes : List ℕ) → PlainFront p bytes rest → AreBytes bytes → plains_within (suc fuel) w bytes ≡ Some ps → ((ps : List Plain) → AreBytes rest → plains_within fuel w rest ≡ Some ps → ⊥) → ⊥
    go [] front small h more = plain_not_empty p rest front
    go (b ∷ bytes) front small h more =
        let x : PlainsFirst fuel w (b ∷ bytes) = plains_first fuel w b bytes ps small h in
        let (same, behind) = plain_once x.plain p (b ∷ bytes) x.rest rest (x.wire ∙ sym is) x.front front in
        more x.plains (plain_bytes p (b ∷ bytes) rest small front) (ap (plains_within fuel w) (sym behind) ∙ x.behind)

-- WHAT COMES NEXT

abbrev Follows : Type 1
Follows = ℕ → WireType → List ℕ → Type 0

moved : (Then : Follows) (n m : ℕ) (v w : WireType) (rest end : List ℕ) → n ≡ m → v ≡ w → rest ≡ end → Then n v rest → Then m w end
moved Then n m v w rest end a b c h = subst (λ x. Then x w end) a (subst (λ x. Then n x end) b (subst (λ x. Then n v x) c h))

abbrev FieldThen : Schema → Place → (Field → WireType → List ℕ → Type 0) → Follows
FieldThen schema place Then n w rest = (f : Field) × (field_at schema place.inside n ≡ Some f) × Then f w rest

field_next : (schema : Schema) (place : Place) (Then : Field → WireType → List ℕ → Type 0) → NextField schema place Then → Next place (FieldThen schema place Then)
field_next schema place Then x = record { number = x.number; wire = x.wire; rest = x.rest; key = x.key; behind = (x.field, x.found, x.behind) }

next_at_record : (schema : Schema) (place : Place) (behind : List ℕ) (Then : Follows) (r : NextRecord schema place behind) → Next place Then → Then r.number (payload_wire r.payload) r.behind_key
next_at_record schema place behind Then r x =
    let (a, b, c) = key_once x.number r.number x.wire (payload_wire r.payload) place.bytes x.rest r.behind_key x.key r.key in
    moved Then x.number r.number x.wire (payload_wire r.payload) x.rest r.behind_key a b c x.behind

-- an end key comes next, or nothing
next_at_end : (place : Place) (Then : Follows) → EndNext place → Next place Then → (n : ℕ) × (rest : List ℕ) × (place.open_group ≡ Some n) × Then n wires.EndGroup rest
next_at_end place Then (AtEnd e o) x = absurd (key_not_empty x.number x.wire x.rest (subst (λ b. KeyFront x.number x.wire b x.rest) e x.key))
next_at_end place Then (AtStop n rest o k) x =
    let (a, b, c) = key_once x.number n x.wire wires.EndGroup place.bytes x.rest rest x.key k in
    (n, rest, o, moved Then x.number n x.wire wires.EndGroup x.rest rest a b c x.behind)

-- WHERE A BODY ENDS

end_no_len : wires.EndGroup ≢ wires.LengthDelimited
end_no_len e = let c : ◌≡◌ {A = ℕ} 4 2 = ap wire_code e in omega (arith, c)

end_opens_none : (o : Option Field) → opens_level o wires.EndGroup ≡ false
end_opens_none None = refl
end_opens_none (Some f) = go f.form f.value_type.kind
  where
    go : (form : FieldForm) (kind : Kind) → needs_level form kind wires.EndGroup ≡ false
    go (MapFrom key) (ScalarOf kind) = refl
    go (MapFrom key) (MessageOf T) = refl
    go (MapFrom key) (GroupOf T) = refl
    go Singular (ScalarOf kind) = refl
    go Singular (MessageOf T) = refl
    go Singular (GroupOf T) = refl
    go (Repeated packed) (ScalarOf kind) = refl
    go (Repeated packed) (MessageOf T) = refl
    go (Repeated packed) (GroupOf T) = refl

stop_no_fault : (place : Place) (e : DecodeError) → EndNext place → place.bytes ≢ [] → KeyFault e place.bytes → ⊥
stop_no_fault place e (AtEnd empty o) some f = some empty
stop_no_fault place e (AtStop n rest o k) some f = key_no_fault e n wires.EndGroup place.bytes rest k f

passing_some : (bytes : List ℕ) → VarintPasses bytes → bytes ≢ []
passing_some bytes h e = past_end (subst VarintPasses e h)

no_key_some : (bytes : List ℕ) → NoKey bytes → bytes ≢ []
no_key_some bytes h e = go h.front.front h.front.varint (sym e ∙ h.front.parts)
  where
    go : (front : List ℕ) → Varint h.value front → [] ≡ front ++ h.rest → ⊥
    go [] v e = elim v.digits [ ]
    go (b ∷ front) v e = absurd cc

unended_none : (place : Place) → EndNext place → place.bytes ≡ [] → place.open_group ≢ None → ⊥
unended_none place (AtEnd e o) empty opened = opened o
unended_none place (AtStop n rest o k) empty opened = key_not_empty n wires.EndGroup rest (subst (λ b. KeyFront n wires.EndGroup b rest) empty k)

module _ (schema : Schema) (place : Place) where
  pub end_no_fault : (e : DecodeError) → EndNext place → Comes schema e place → ⊥
  end_no_fault errors.Truncated x (inl (some, f)) = stop_no_fault place errors.Truncated x some f
  end_no_fault errors.Truncated x (inr (inl (empty, opened))) = unended_none place x empty opened
  end_no_fault errors.Truncated x (inr (inr (inl f))) = let (n, rest, o, h) = next_at_end place (λ n w rest. PayloadEnds w rest) x f in h
  end_no_fault errors.Truncated x (inr (inr (inr f))) =
      let (n, rest, o, (_, _, h)) = next_at_end place (FieldThen schema place (PackedNext errors.Truncated)) x (field_next schema place (PackedNext errors.Truncated) f) in end_no_len h.0
  end_no_fault errors.Varint x (inl f) = stop_no_fault place errors.Varint x (passing_some place.bytes f) f
  end_no_fault errors.Varint x (inr (inl f)) = let (n, rest, o, h) = next_at_end place (λ n w rest. PayloadPasses w rest) x f in h
  end_no_fault errors.Varint x (inr (inr f)) =
      let (n, rest, o, (_, _, h)) = next_at_end place (FieldThen schema place (PackedNext errors.Varint)) x (field_next schema place (PackedNext errors.Varint) f) in end_no_len h.0
  end_no_fault errors.Key x f = stop_no_fault place errors.Key x (no_key_some place.bytes f) f
  end_no_fault errors.WireType x f =
      let (n, rest, o, (_, _, h)) = next_at_end place (FieldThen schema place (λ f w rest. (w ≢ wires.EndGroup) × (takes f.form f.value_type.kind w ≡ false))) x (field_next schema place (λ f w rest. (w ≢ wires.EndGroup) × (takes f.form f.value_type.kind w ≡ false)) f) in h.0 refl
  end_no_fault errors.EndGroup x f = let (n, rest, o, h) = next_at_end place (λ n w rest. (w ≡ wires.EndGroup) × (place.open_group ≢ Some n)) x f in h.1 o
  end_no_fault errors.Utf8 x f = let (n, rest, o, (_, _, h)) = next_at_end place (FieldThen schema place TextNext) x (field_next schema place TextNext f) in end_no_len h.0
  end_no_fault errors.Depth x f =
      let (n, rest, o, h) = next_at_end place (λ n w rest. opens_level (field_at schema place.inside n) w ≡ true) x f.1 in not_both h (end_opens_none (field_at schema place.inside n))
  end_no_fault e x f = absurd f

  -- WHERE A RECORD COMES

  pub known_allowed : (n : ℕ) (p : Payload) (f : Field) → payload_allowed schema place n p ≡ true → field_at schema place.inside n ≡ Some f →
      field_allowed place.levels (inner schema place.levels) f.form f.value_type p ≡ true
  known_allowed n p f allowed found =
      sym (ap (λ o. elim o [ None ↦ nat_le (payload_levels p) place.levels | Some g ↦ field_allowed place.levels (inner schema place.levels) g.form g.value_type p ]) found) ∙ allowed

  pub unknown_allowed : (n : ℕ) (p : Payload) → payload_allowed schema place n p ≡ true → field_at schema place.inside n ≡ None → payload_levels p ≤ place.levels
  unknown_allowed n p allowed found =
      leb-true (payload_levels p) place.levels
      (sym (ap (λ o. elim o [ None ↦ nat_le (payload_levels p) place.levels | Some g ↦ field_allowed place.levels (inner schema place.levels) g.form g.value_type p ]) found) ∙ allowed)

payload_no_fault : (e : DecodeError) (n : ℕ) (p : Payload) (bytes rest : List ℕ) → PayloadFront n p bytes rest → PlainFault e (payload_wire p) bytes → ⊥
payload_no_fault e n (Flat p) bytes rest f h = plain_no_fault e p bytes rest f h
payload_no_fault errors.Truncated n (Group inside) bytes rest f h = h
payload_no_fault errors.Varint n (Group inside) bytes rest f h = h
payload_no_fault e n (Group inside) bytes rest f h = absurd h

-- a delimited payload comes next
pub len_front : (n : ℕ) (p : Payload) (bytes rest body after : List ℕ) → payload_wire p ≡ wires.LengthDelimited → PayloadFront n p bytes rest → DelimitedFront body bytes after → (p ≡ Flat (Len body)) × (rest ≡ after)
len_front n (Flat (Len b)) bytes rest body after e f d = let (same, behind) = delimited_once b body bytes rest after (plain_delimited b bytes rest f) d in (ap (λ b. Flat (Len b)) same, behind)
len_front n _ bytes rest body after e f d = absurd cc

-- one value or a packed record of the kind
pub kind_allowed : (k : ℕ) (inner : AllowsInside) (f : Field) (kind : Kind) (p : Payload) → is_map f.form ≡ false → f.value_type.kind ≡ kind → field_allowed k inner f.form f.value_type p ≡ true → one_or_packed inner kind p ≡ true
kind_allowed k inner f kind p m is h = ap (λ c. one_or_packed inner c p) (sym is) ∙ allowed_one k inner f.form f.value_type p m h

text_no_fault : (k : ℕ) (inner : AllowsInside) (f : Field) (n : ℕ) (p : Payload) (bytes rest : List ℕ) → PayloadFront n p bytes rest → field_allowed k inner f.form f.value_type p ≡ true → TextNext f (payload_wire p) bytes → ⊥
text_no_fault k inner f n p bytes rest front allowed (w, m, is, (body, after, d, bad)) =
    let (same, _) = len_front n p bytes rest body after w front d in
    let h : one_or_packed inner (ScalarOf StringKind) (Flat (Len body)) ≡ true = ap (one_or_packed inner (ScalarOf StringKind)) (sym same) ∙ kind_allowed k inner f (ScalarOf StringKind) p m is allowed in
    not_both (text_allowed inner body h) bad

packed_no_fault : (e : DecodeError) (k : ℕ) (inner : AllowsInside) (f : Field) (n : ℕ) (p : Payload) (bytes rest : List ℕ) → AreBytes bytes → PayloadFront n p bytes rest → field_allowed k inner f.form f.value_type p ≡ true →
    PackedNext e f (payload_wire p) bytes → ⊥
unfolding unpacked
packed_no_fault e k inner f n p bytes rest small front allowed (w, (packed, form), (kind, is, packable, (body, after, d, stands))) =
    let (same, _) = len_front n p bytes rest body after w front d in
    let h : one_or_packed inner (ScalarOf kind) (Flat (Len body)) ≡ true = ap (one_or_packed inner (ScalarOf kind)) (sym same) ∙ kind_allowed k inner f (ScalarOf kind) p (ap is_map form) is allowed in
    go (unpacked kind body) refl (unpacked_allowed inner kind body packable h)
  where
    go : (o : Option (List Plain)) → unpacked kind body ≡ o → is_some o ≡ true → ⊥
    go None e h = true≢false (sym h)
    go (Some ps) e h = elements_no_fault (kind_wire kind) stands (suc (length body)) ps (delimited_bytes body bytes after small d) e

nothing_passes : (o : Option (List Record)) (T : ℕ) → passes o (nothing_inside T) ≡ false
nothing_passes None T = refl
nothing_passes (Some rs) T = refl

deep_one : (kind : Kind) (p : Payload) → is_message kind ≡ true → one_or_packed nothing_inside kind p ≡ true → ⊥
deep_one (ScalarOf kind) p m h = true≢false (sym m)
deep_one (MessageOf T) p m h = not_both (message_allowed nothing_inside T p h).1 (nothing_passes (body p) T)
deep_one (GroupOf T) p m h = not_both (group_allowed nothing_inside T p h).1 (nothing_passes (body p) T)

deep_entry : (kind : Kind) → is_message kind ≡ true → has_level 0 kind ≡ true → ⊥
deep_entry (ScalarOf kind) m h = true≢false (sym m)
deep_entry (MessageOf T) m h = true≢false (sym h)
deep_entry (GroupOf T) m h = true≢false (sym h)

message_needs : (kind : Kind) (w : WireType) → needs_level Singular kind w ≡ true → is_message kind ≡ true
message_needs (ScalarOf kind) w h = h
message_needs (MessageOf T) w h = refl
message_needs (GroupOf T) w h = refl

repeated_needs : (packed : Bool) (kind : Kind) (w : WireType) → needs_level (Repeated packed) kind w ≡ true → is_message kind ≡ true
repeated_needs packed (ScalarOf kind) w h = h
repeated_needs packed (MessageOf T) w h = refl
repeated_needs packed (GroupOf T) w h = refl

deep_field : (form : FieldForm) (value_type : ValueType) (p : Payload) → field_allowed 0 nothing_inside form value_type p ≡ true → needs_level form value_type.kind (payload_wire p) ≡ true → ⊥
deep_field Singular value_type p h needs = deep_one value_type.kind p (message_needs value_type.kind (payload_wire p) needs) (allowed_one 0 nothing_inside Singular value_type p refl h)
deep_field (Repeated packed) value_type p h needs = deep_one value_type.kind p (repeated_needs packed value_type.kind (payload_wire p) needs) h
deep_field (MapFrom key) value_type p h needs =
    deep_entry value_type.kind (and_parts (is_message value_type.kind) (same_wire (payload_wire p) wires.LengthDelimited) needs).0 (map_allowed 0 nothing_inside key value_type p h).1

start_code : (p : Payload) → same_wire (payload_wire p) wires.StartGroup ≡ true → 0 < payload_levels p
start_code (Group inside) h = omega arith
start_code (Flat (Var v)) h = absurd (true≢false (sym h))
start_code (Flat (Fix64 v)) h = absurd (true≢false (sym h))
start_code (Flat (Len v)) h = absurd (true≢false (sym h))
start_code (Flat (Fix32 v)) h = absurd (true≢false (sym h))

deep_no_fault : (schema : Schema) (k : ℕ) (o : Option Field) (p : Payload) → k ≡ 0 → elim o [ None ↦ nat_le (payload_levels p) k | Some f ↦ field_allowed k (inner schema k) f.form f.value_type p ] ≡ true → opens_level o (payload_wire p) ≡ true → ⊥
deep_no_fault schema zero None p is h opens = let le : payload_levels p ≤ 0 = leb-true (payload_levels p) 0 h in omega (arith, start_code p opens)
deep_no_fault schema zero (Some f) p is h opens = deep_field f.form f.value_type p h opens
deep_no_fault schema (suc k) o p is h opens = omega arith

pub record_no_fault : (schema : Schema) (place : Place) (e : DecodeError) (behind : List ℕ) → AreBytes place.bytes → NextRecord schema place behind → Comes schema e place → ⊥
record_no_fault schema place errors.Truncated behind small r (inl (some, f)) = key_no_fault errors.Truncated r.number (payload_wire r.payload) place.bytes r.behind_key r.key f
record_no_fault schema place errors.Truncated behind small r (inr (inl (empty, opened))) = key_not_empty r.number (payload_wire r.payload) r.behind_key (subst (λ b. KeyFront r.number (payload_wire r.payload) b r.behind_key) empty r.key)
record_no_fault schema place errors.Truncated behind small r (inr (inr (inl f))) =
    payload_no_fault errors.Truncated r.number r.payload r.behind_key behind r.front (next_at_record schema place behind (λ n w rest. PayloadEnds w rest) r f)
record_no_fault schema place errors.Truncated behind small r (inr (inr (inr f))) =
    let (field, found, h) = next_at_record schema place behind (FieldThen schema place (PackedNext errors.Truncated)) r (field_next schema place (PackedNext errors.Truncated) f) in
    packed_no_fault errors.Truncated place.levels (inner schema place.levels) field r.number r.payload r.behind_key behind (key_bytes r.number (payload_wire r.payload) place.bytes r.behind_key small r.key) r.front (known_allowed schema place r.number r.payload field r.allowed found) h
record_no_fault schema place errors.Varint behind small r (inl f) = key_no_fault errors.Varint r.number (payload_wire r.payload) place.bytes r.behind_key r.key f
record_no_fault schema place errors.Varint behind small r (inr (inl f)) =
    payload_no_fault errors.Varint r.number r.payload r.behind_key behind r.front (next_at_record schema place behind (λ n w rest. PayloadPasses w rest) r f)
record_no_fault schema place errors.Varint behind small r (inr (inr f)) =
    let (field, found, h) = next_at_record schema place behind (FieldThen schema place (PackedNext errors.Varint)) r (field_next schema place (PackedNext errors.Varint) f) in
    packed_no_fault errors.Varint place.levels (inner schema place.levels) field r.number r.payload r.behind_key behind (key_bytes r.number (payload_wire r.payload) place.bytes r.behind_key small r.key) r.front (known_allowed schema place r.number r.payload field r.allowed found) h
record_no_fault schema place errors.Key behind small r f = key_no_fault errors.Key r.number (payload_wire r.payload) place.bytes r.behind_key r.key f
record_no_fault schema place errors.WireType behind small r f =
    let (field, found, h) = next_at_record schema place behind (FieldThen schema place (λ f w rest. (w ≢ wires.EndGroup) × (takes f.form f.value_type.kind w ≡ false))) r (field_next schema place (λ f w rest. (w ≢ wires.EndGroup) × (takes f.form f.value_type.kind w ≡ false)) f) in
    not_both (field_taken place.levels (inner schema place.levels) field.form field.value_type r.payload (known_allowed schema place r.number r.payload field r.allowed found)) h.1
record_no_fault schema place errors.EndGroup behind small r f = payload_no_end r.payload (next_at_record schema place behind (λ n w rest. (w ≡ wires.EndGroup) × (place.open_group ≢ Some n)) r f).0
record_no_fault schema place errors.Utf8 behind small r f =
    let (field, found, h) = next_at_record schema place behind (FieldThen schema place TextNext) r (field_next schema place TextNext f) in
    text_no_fault place.levels (inner schema place.levels) field r.number r.payload r.behind_key behind r.front (known_allowed schema place r.number r.payload field r.allowed found) h
record_no_fault schema place errors.Depth behind small r f =
    deep_no_fault schema place.levels (field_at schema place.inside r.number) r.payload f.0 r.allowed (next_at_record schema place behind (λ n w rest. opens_level (field_at schema place.inside n) w ≡ true) r f.1)
record_no_fault schema place e behind small r f = absurd f
