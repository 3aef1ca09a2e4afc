-- Which payloads a field takes, by their wire types.
use Rattle.std.specs.Prelude.{◌≡◌, ◌&&◌, ◌||◌, if◌then◌else◌}
use Rattle.prost_reflect_laws.proofs.Common.{or_left, or_right, ℕ, Bool, true, false, List, Some, None, refl, sym, ap, ◌∙◌, true≢false, is_some, list_all, is_utf8, and_parts, or-false, Var, Fix64, Len, Fix32, Records, Payload, Flat, Group, payload_wire, ScalarKind, Double, Float, Int64, Uint64, Int32, Fixed64, Fixed32, BoolKind, StringKind, BytesKind, Uint32, Enum, Sfixed32, Sfixed64, Sint32, Sint64, kind_wire, Kind, ScalarOf, MessageOf, GroupOf, ValueType, FieldForm, Singular, Repeated, MapFrom, is_packable, passes, is_map, AllowsInside, fits, body, is_len, is_group_payload, one_allowed, packed_allowed, has_level, in_entry_allowed, field_allowed, unpacked, same_wire, one_takes, packed_takes, takes, plain_no_group}
use Rattle.prost_reflect_wire.specs.declared.key.WireType.TheVariants as wires
use Rattle.prost_reflect_wire.specs.Scalar as scalars

-- PAYLOADS BY THEIR WIRE TYPES

pub not_both : {b : Bool} → b ≡ true → b ≡ false → ⊥
not_both e f = true≢false (sym e ∙ f)

pub group_payload : (p : Payload) → payload_wire p ≡ wires.StartGroup → (inside : Records) × (p ≡ Group inside)
group_payload (Group inside) e = (inside, refl)
group_payload (Flat p) e = absurd (plain_no_group p e)

-- A payload that a kind takes has the kind's wire type.
fits_wire : (kind : ScalarKind) (p : Payload) → fits kind p ≡ true → same_wire (payload_wire p) (kind_wire kind) ≡ true
fits_wire Double (Flat (Fix64 b)) h = refl
fits_wire Float (Flat (Fix32 b)) h = refl
fits_wire Int64 (Flat (Var v)) h = refl
fits_wire Uint64 (Flat (Var v)) h = refl
fits_wire Int32 (Flat (Var v)) h = refl
fits_wire Fixed64 (Flat (Fix64 b)) h = refl
fits_wire Fixed32 (Flat (Fix32 b)) h = refl
fits_wire BoolKind (Flat (Var v)) h = refl
fits_wire StringKind (Flat (Len b)) h = refl
fits_wire BytesKind (Flat (Len b)) h = refl
fits_wire Uint32 (Flat (Var v)) h = refl
fits_wire (Enum first numbers) (Flat (Var v)) h = refl
fits_wire Sfixed32 (Flat (Fix32 b)) h = refl
fits_wire Sfixed64 (Flat (Fix64 b)) h = refl
fits_wire Sint32 (Flat (Var v)) h = refl
fits_wire Sint64 (Flat (Var v)) h = refl
fits_wire kind p h = absurd (true≢false (sym h))

pub packable_no_len : (kind : ScalarKind) (bytes : List ℕ) → is_packable kind ≡ true → fits kind (Flat (Len bytes)) ≡ false
packable_no_len StringKind bytes h = absurd (true≢false (sym h))
packable_no_len BytesKind bytes h = absurd (true≢false (sym h))
packable_no_len kind bytes h = refl

-- ONE VALUE, OR A PACKED RECORD

abbrev pub one_or_packed : AllowsInside → Kind → Payload → Bool
one_or_packed inner kind p = one_allowed inner kind p || packed_allowed kind p

or_other : (a b : Bool) → a ≡ false → (a || b) ≡ true → b ≡ true
or_other true b e h = absurd (true≢false e)
or_other false b e h = h

pub allowed_one : (k : ℕ) (inner : AllowsInside) (form : FieldForm) (value_type : ValueType) (p : Payload) → is_map form ≡ false → field_allowed k inner form value_type p ≡ true → one_or_packed inner value_type.kind p ≡ true
allowed_one k inner Singular value_type p m h = or_left (one_allowed inner value_type.kind p) (packed_allowed value_type.kind p) h
allowed_one k inner (Repeated packed) value_type p m h = h
allowed_one k inner (MapFrom key) value_type p m h = absurd (true≢false m)

pub message_allowed : (inner : AllowsInside) (T : ℕ) (p : Payload) → one_or_packed inner (MessageOf T) p ≡ true → (is_len p ≡ true) × (passes (body p) (inner T) ≡ true)
message_allowed inner T p h = and_parts (is_len p) (passes (body p) (inner T)) (sym (or-false (is_len p && passes (body p) (inner T))) ∙ h)

pub group_allowed : (inner : AllowsInside) (T : ℕ) (p : Payload) → one_or_packed inner (GroupOf T) p ≡ true → (is_group_payload p ≡ true) × (passes (body p) (inner T) ≡ true)
group_allowed inner T p h = and_parts (is_group_payload p) (passes (body p) (inner T)) (sym (or-false (is_group_payload p && passes (body p) (inner T))) ∙ h)

pub map_allowed : (k : ℕ) (inner : AllowsInside) (key value_type : ValueType) (p : Payload) → field_allowed k inner (MapFrom key) value_type p ≡ true →
    (is_len p ≡ true) × (has_level k value_type.kind ≡ true) × (passes (body p) (list_all (in_entry_allowed k inner key value_type)) ≡ true)
map_allowed k inner key value_type p h =
    let (both, inside) = and_parts (is_len p && has_level k value_type.kind) (passes (body p) (list_all (in_entry_allowed k inner key value_type))) h in
    let (len, level) = and_parts (is_len p) (has_level k value_type.kind) both in
    (len, level, inside)

pub text_allowed : (inner : AllowsInside) (bytes : List ℕ) → one_or_packed inner (ScalarOf StringKind) (Flat (Len bytes)) ≡ true → is_utf8 bytes ≡ true
text_allowed inner bytes h = go (is_utf8 bytes) refl (sym (or-false (fits StringKind (Flat (Len bytes)))) ∙ h)
  where
    go : (b : Bool) → is_utf8 bytes ≡ b → fits StringKind (Flat (Len bytes)) ≡ true → is_utf8 bytes ≡ true
    go true e f = e
    go false e f = absurd (true≢false (sym f ∙ ap (λ (b : Bool). is_some (if b then Some (scalars.Text bytes) else None)) e))

pub unpacked_allowed : (inner : AllowsInside) (kind : ScalarKind) (bytes : List ℕ) → is_packable kind ≡ true → one_or_packed inner (ScalarOf kind) (Flat (Len bytes)) ≡ true → is_some (unpacked kind bytes) ≡ true
unpacked_allowed inner kind bytes packable h =
    (and_parts (is_packable kind) (is_some (unpacked kind bytes)) (or_other (fits kind (Flat (Len bytes))) (packed_allowed (ScalarOf kind) (Flat (Len bytes))) (packable_no_len kind bytes packable) h)).1

-- WIRE TYPES THAT ARE TAKEN

len_wire : (p : Payload) → is_len p ≡ true → same_wire (payload_wire p) wires.LengthDelimited ≡ true
len_wire (Flat (Len b)) h = refl
len_wire p h = absurd (true≢false (sym h))

group_wire : (p : Payload) → is_group_payload p ≡ true → same_wire (payload_wire p) wires.StartGroup ≡ true
group_wire (Group inside) h = refl
group_wire p h = absurd (true≢false (sym h))

one_taken : (inner : AllowsInside) (kind : Kind) (p : Payload) → one_allowed inner kind p ≡ true → one_takes kind (payload_wire p) ≡ true
one_taken inner (ScalarOf kind) p h = fits_wire kind p h
one_taken inner (MessageOf T) p h = len_wire p (and_parts (is_len p) (passes (body p) (inner T)) h).0
one_taken inner (GroupOf T) p h = group_wire p (and_parts (is_group_payload p) (passes (body p) (inner T)) h).0

packed_taken : (kind : Kind) (p : Payload) → packed_allowed kind p ≡ true → packed_takes kind (payload_wire p) ≡ true
packed_taken (ScalarOf kind) (Flat (Len bytes)) h = ap (λ b. b && true) (and_parts (is_packable kind) (is_some (unpacked kind bytes)) h).0
packed_taken kind p h = absurd (true≢false (sym h))

either_taken : (inner : AllowsInside) (kind : Kind) (p : Payload) → one_or_packed inner kind p ≡ true → (one_takes kind (payload_wire p) || packed_takes kind (payload_wire p)) ≡ true
either_taken inner kind p h = go (one_allowed inner kind p) refl
  where
    go : (b : Bool) → one_allowed inner kind p ≡ b → (one_takes kind (payload_wire p) || packed_takes kind (payload_wire p)) ≡ true
    go true e = or_left (one_takes kind (payload_wire p)) (packed_takes kind (payload_wire p)) (one_taken inner kind p e)
    go false e = or_right (one_takes kind (payload_wire p)) (packed_takes kind (payload_wire p)) (packed_taken kind p (or_other (one_allowed inner kind p) (packed_allowed kind p) e h))

-- What a field allows has a wire type that it takes.
pub field_taken : (k : ℕ) (inner : AllowsInside) (form : FieldForm) (value_type : ValueType) (p : Payload) → field_allowed k inner form value_type p ≡ true → takes form value_type.kind (payload_wire p) ≡ true
field_taken k inner Singular value_type p h = one_taken inner value_type.kind p h
field_taken k inner (Repeated packed) value_type p h = either_taken inner value_type.kind p h
field_taken k inner (MapFrom key) value_type p h = let (len, level, inside) = map_allowed k inner key value_type p h in len_wire p len
