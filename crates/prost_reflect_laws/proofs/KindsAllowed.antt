-- Payloads of a wire type that a field takes are allowed, but for what is inside them.
use Rattle.std.specs.Prelude.{◌≡◌, ◌≢◌, ◌<◌, ◌⊎◌, ◌∷◌, if◌then◌else◌}
use Rattle.prost_reflect_laws.proofs.Common.{or_left, or_right, ℕ, zero, suc, Bool, true, false, inl, inr, List, [], length, Option, Some, None, refl, sym, ap, ◌∙◌, arith, length-append, true≢false, is_some, is_utf8, eqb-true, DecodeError, WireType, AreBytes, ◌>>=◌, Plain, Var, Fix64, Len, Fix32, Payload, Flat, SpellsPlain, wire_code, wire_of, plain_wire, plain_at, ScalarKind, Double, Float, Int64, Uint64, Int32, Fixed64, Fixed32, BoolKind, StringKind, BytesKind, Uint32, Enum, Sfixed32, Sfixed64, Sint32, Sint64, kind_wire, ValueType, FieldForm, Singular, Repeated, MapFrom, is_map, AllowsInside, fits, one_allowed, packed_allowed, field_allowed, plains_within, PlainFront, PlainFault, ElementFault, ElementEnds, ElementPasses, BehindElement, same_wire, wire_known, plain_read, varint_some}
use Rattle.prost_reflect_wire.specs.declared.error.DecodeError.TheVariants as errors
use Rattle.prost_reflect_wire.specs.declared.key.WireType.TheVariants as wires
use Rattle.prost_reflect_wire.specs.Scalar as scalars
use Rattle.prost_reflect_laws.proofs.BodyFronts.{plain_bytes}
use Rattle.prost_reflect_laws.proofs.FrontOrFault.{SomeFault, SomePlain, plain_or}

-- WIRE TYPES

pub same_is : (v w : WireType) → same_wire v w ≡ true → v ≡ w
same_is v w h =
    let code : wire_code v ≡ wire_code w = eqb-true (wire_code v) (wire_code w) h in
    let found : ◌≡◌ {A = Option WireType} (Some v) (Some w) = sym (wire_known v) ∙ ap wire_of code ∙ wire_known w in
    cc

pub kind_no_start : (kind : ScalarKind) → kind_wire kind ≢ wires.StartGroup
kind_no_start Double e = cc
kind_no_start Fixed64 e = cc
kind_no_start Sfixed64 e = cc
kind_no_start Float e = cc
kind_no_start Fixed32 e = cc
kind_no_start Sfixed32 e = cc
kind_no_start StringKind e = cc
kind_no_start BytesKind e = cc
kind_no_start kind e = cc

pub kind_no_end : (kind : ScalarKind) → kind_wire kind ≢ wires.EndGroup
kind_no_end Double e = cc
kind_no_end Fixed64 e = cc
kind_no_end Sfixed64 e = cc
kind_no_end Float e = cc
kind_no_end Fixed32 e = cc
kind_no_end Sfixed32 e = cc
kind_no_end StringKind e = cc
kind_no_end BytesKind e = cc
kind_no_end kind e = cc

-- SCALARS

-- A text that is none.
pub record BadText (kind : ScalarKind) (p : Plain) : Type 0 where
  pub body : List ℕ
  pub text : kind ≡ StringKind
  pub delimited : p ≡ Len body
  pub bad : is_utf8 body ≡ false

text_fits : (body : List ℕ) → (fits StringKind (Flat (Len body)) ≡ true) ⊎ BadText StringKind (Len body)
text_fits body = go (is_utf8 body) refl
  where
    go : (b : Bool) → is_utf8 body ≡ b → (fits StringKind (Flat (Len body)) ≡ true) ⊎ BadText StringKind (Len body)
    go true e = inl (ap (λ (b : Bool). is_some (if b then Some (scalars.Text body) else None)) e)
    go false e = inr (record { body = body; text = refl; delimited = refl; bad = e })

pub wire_fits : (kind : ScalarKind) (p : Plain) → plain_wire p ≡ kind_wire kind → (fits kind (Flat p) ≡ true) ⊎ BadText kind p
wire_fits Double (Fix64 b) h = inl refl
wire_fits Float (Fix32 b) h = inl refl
wire_fits Int64 (Var v) h = inl refl
wire_fits Uint64 (Var v) h = inl refl
wire_fits Int32 (Var v) h = inl refl
wire_fits Fixed64 (Fix64 b) h = inl refl
wire_fits Fixed32 (Fix32 b) h = inl refl
wire_fits BoolKind (Var v) h = inl refl
wire_fits StringKind (Len b) h = text_fits b
wire_fits BytesKind (Len b) h = inl refl
wire_fits Uint32 (Var v) h = inl refl
wire_fits (Enum first numbers) (Var v) h = inl refl
wire_fits Sfixed32 (Fix32 b) h = inl refl
wire_fits Sfixed64 (Fix64 b) h = inl refl
wire_fits Sint32 (Var v) h = inl refl
wire_fits Sint64 (Var v) h = inl refl
wire_fits kind p h = absurd cc

-- FIELDS

pub one_field : (k : ℕ) (inner : AllowsInside) (form : FieldForm) (value_type : ValueType) (p : Payload) → is_map form ≡ false → one_allowed inner value_type.kind p ≡ true → field_allowed k inner form value_type p ≡ true
one_field k inner Singular value_type p m h = h
one_field k inner (Repeated packed) value_type p m h = or_left (one_allowed inner value_type.kind p) (packed_allowed value_type.kind p) h
one_field k inner (MapFrom key) value_type p m h = absurd (true≢false m)

pub packed_field : (k : ℕ) (inner : AllowsInside) (packed : Bool) (value_type : ValueType) (p : Payload) → packed_allowed value_type.kind p ≡ true → field_allowed k inner (Repeated packed) value_type p ≡ true
packed_field k inner packed value_type p h = or_right (one_allowed inner value_type.kind p) (packed_allowed value_type.kind p) h

-- PACKED RECORDS

plain_some : (p : Plain) (front : List ℕ) → SpellsPlain p front → 0 < length front
plain_some (Var v) front s = varint_some v front s
plain_some (Len body) front (len, varint, whole) = rw whole (omega (arith, length-append len body, varint_some (length body) len varint))
plain_some (Fix64 b) front s = omega (arith, ap length s.1, s.0)
plain_some (Fix32 b) front s = omega (arith, ap length s.1, s.0)

pub plain_shorter : (p : Plain) (bytes rest : List ℕ) → PlainFront p bytes rest → length rest < length bytes
plain_shorter p bytes rest f = omega (arith, ap length f.parts, length-append f.front rest, plain_some p f.front f.spelled)

pub record SomePlains (fuel : ℕ) (w : WireType) (bytes : List ℕ) : Type 0 where
  pub plains : List Plain
  pub found : plains_within fuel w bytes ≡ Some plains

pub element_fault : (w : WireType) (b : ℕ) (bytes : List ℕ) (e : DecodeError) → PlainFault e w (b ∷ bytes) → ElementFault w e (b ∷ bytes)
element_fault w b bytes errors.Truncated f = ElementEnds f
element_fault w b bytes errors.Varint f = ElementPasses f
element_fault w b bytes e f = absurd f

pub more_plains : (fuel : ℕ) (w : WireType) (b : ℕ) (bytes : List ℕ) (x : SomePlain w (b ∷ bytes)) → SomePlains fuel w x.rest → SomePlains (suc fuel) w (b ∷ bytes)
more_plains fuel w b bytes x more =
    let first : plain_at w (b ∷ bytes) ≡ Some (x.plain, x.rest) = ap (λ v. plain_at v (b ∷ bytes)) (sym x.wire) ∙ ap (plain_at (plain_wire x.plain)) x.front.parts ∙ plain_read x.plain x.front.front x.rest x.front.spelled in
    record {
      plains = x.plain ∷ more.plains;
      found = ap (λ o. o >>= λ p. plains_within fuel w p.1 >>= λ rest. Some (p.0 ∷ rest)) first ∙ ap (λ o. o >>= λ rest. Some (x.plain ∷ rest)) more.found;
    }

pub elements_or : (fuel : ℕ) (w : WireType) (bytes : List ℕ) → w ≢ wires.StartGroup → w ≢ wires.EndGroup → AreBytes bytes → length bytes < fuel → SomePlains fuel w bytes ⊎ SomeFault (λ e. ElementFault w e bytes)
elements_or zero w bytes start end small enough = absurd (omega arith)
elements_or (suc fuel) w [] start end small enough = inl (record { plains = []; found = refl })
elements_or (suc fuel) w (b ∷ bytes) start end small enough = elim (plain_or w (b ∷ bytes) start end small) [
  | inr f ↦ inr (record { error = f.error; fault = element_fault w b bytes f.error f.fault })
  | inl x ↦ elim (elements_or fuel w x.rest start end (plain_bytes x.plain (b ∷ bytes) x.rest small x.front) (let less = plain_shorter x.plain (b ∷ bytes) x.rest x.front in omega arith)) [
    | inl more ↦ inl (more_plains fuel w b bytes x more)
    | inr f ↦ inr (record { error = f.error; fault = BehindElement x.plain x.rest x.front x.wire f.fault })
  ]
]

-- Only two faults stand among elements.
pub element_name : (w : WireType) {e : DecodeError} {bytes : List ℕ} → ElementFault w e bytes → (e ≡ errors.Truncated) ⊎ (e ≡ errors.Varint)
element_name w (ElementEnds f) = inl refl
element_name w (ElementPasses f) = inr refl
element_name w (BehindElement p rest front is more) = element_name w more
