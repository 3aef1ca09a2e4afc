-- Which faults bytes have, and at which places.
-- They are what the encoding guide's rules on varints, keys, payloads, groups and text leave no reading for.
use Rattle.std.specs.Prelude.{◌≡◌, ◌≢◌, ℕ, suc, ◌⊎◌, Bool, true, false, ◌&&◌, ◌||◌, nat_eq, List, [], ◌∷◌, ◌++◌, Option, Some, None, if◌then◌else◌}
use Rattle.std.specs.Str.{is_utf8}
use Rattle.prost_reflect_wire.specs.Record.{Plain, Record, wire_code, plain_wire, short_key}
use Rattle.prost_reflect_wire.specs.Scalar.{ScalarKind, StringKind, kind_wire}
use Rattle.prost_reflect_wire.specs.Schema.{Kind, ScalarOf, MessageOf, GroupOf, ValueType, FieldForm, Singular, Repeated, MapFrom, Field, Schema, known, field_of, is_packable, is_message, is_map}
use Rattle.prost_reflect_wire.specs.Grammar.{has_level}
use Rattle.prost_reflect_wire.specs.declared.key.WireType.{WireType}
use Rattle.prost_reflect_wire.specs.declared.key.WireType.TheVariants as wires
use Rattle.prost_reflect_wire.specs.declared.error.DecodeError.{DecodeError}
use Rattle.prost_reflect_wire.specs.declared.error.DecodeError.TheVariants as errors
pub use Rattle.prost_reflect_wire.specs.Front.{KeyFront, PlainFront, DelimitedFront, RecordFront, VarintEnds, VarintPasses, NoKey, PayloadEnds, PayloadPasses, PlainFault}

-- What is known in a body: a type's numbers, an entry's key and value, or nothing.
pub data Inside : Type 0 where
  OfType : ℕ → Inside
  OfEntry : (key value_type : ValueType) → Inside
  OfNothing : Inside

-- A body with what is known there, the levels left, and the number of the open group, if it is one.
pub record Place : Type 0 where
  pub bytes : List ℕ
  pub inside : Inside
  pub levels : ℕ
  pub open_group : Option ℕ

abbrev pub entry_field : ℕ → ValueType → Field
entry_field n value_type = record { number = n; is_extension = false; form = Singular; value_type = value_type; oneof = None }

abbrev pub field_at : Schema → Inside → ℕ → Option Field
field_at schema (OfType T) n = field_of (known schema T) n
field_at schema (OfEntry key value_type) n = if nat_eq n 1 then Some (entry_field 1 key) else if nat_eq n 2 then Some (entry_field 2 value_type) else None
field_at schema OfNothing n = None

-- WIRE TYPES

abbrev pub same_wire : WireType → WireType → Bool
same_wire v w = nat_eq (wire_code v) (wire_code w)

abbrev pub one_takes : Kind → WireType → Bool
one_takes (ScalarOf kind) w = same_wire w (kind_wire kind)
one_takes (MessageOf T) w = same_wire w wires.LengthDelimited
one_takes (GroupOf T) w = same_wire w wires.StartGroup

abbrev pub packed_takes : Kind → WireType → Bool
packed_takes (ScalarOf kind) w = is_packable kind && same_wire w wires.LengthDelimited
packed_takes kind w = false

abbrev pub takes : FieldForm → Kind → WireType → Bool
takes Singular kind w = one_takes kind w
takes (Repeated packed) kind w = one_takes kind w || packed_takes kind w
takes (MapFrom key) kind w = same_wire w wires.LengthDelimited

-- A message or a group comes next, or a map record with message values.
abbrev pub needs_level : FieldForm → Kind → WireType → Bool
needs_level (MapFrom key) kind w = is_message kind && same_wire w wires.LengthDelimited
needs_level c (ScalarOf kind) w = false
needs_level c kind w = one_takes kind w

abbrev pub opens_level : Option Field → WireType → Bool
opens_level None w = same_wire w wires.StartGroup
opens_level (Some f) w = needs_level f.form f.value_type.kind w

-- WHAT COMES NEXT

-- A key comes next, and then this.
pub record Next (place : Place) (Then : ℕ → WireType → List ℕ → Type 0) : Type 0 where
  pub number : ℕ
  pub wire : WireType
  pub rest : List ℕ
  pub key : KeyFront number wire place.bytes rest
  pub behind : Then number wire rest

-- A key with a field, and then this.
pub record NextField (schema : Schema) (place : Place) (Then : Field → WireType → List ℕ → Type 0) : Type 0 where
  pub number : ℕ
  pub wire : WireType
  pub field : Field
  pub rest : List ℕ
  pub key : KeyFront number wire place.bytes rest
  pub found : field_at schema place.inside number ≡ Some field
  pub behind : Then field wire rest

-- AMONG THE ELEMENTS OF A PACKED RECORD

-- Only these two can stand among payloads end to end: at the front, or behind a whole element.
pub data ElementFault (w : WireType) : DecodeError → List ℕ → Type 0 where
  ElementEnds : {b : ℕ} {bytes : List ℕ} → PayloadEnds w (b ∷ bytes) → ElementFault w errors.Truncated (b ∷ bytes)
  ElementPasses : {bytes : List ℕ} → PayloadPasses w bytes → ElementFault w errors.Varint bytes
  BehindElement : {e : DecodeError} {bytes : List ℕ} (p : Plain) (rest : List ℕ) → PlainFront p bytes rest
      → plain_wire p ≡ w
      → ElementFault w e rest
      → ElementFault w e bytes

-- AT A PLACE

abbrev pub TextNext : Field → WireType → List ℕ → Type 0
TextNext f w rest = (w ≡ wires.LengthDelimited) × (is_map f.form ≡ false) × (f.value_type.kind ≡ ScalarOf StringKind)
    × ((body after : List ℕ) × DelimitedFront body rest after × (is_utf8 body ≡ false))

abbrev pub PackedNext : DecodeError → Field → WireType → List ℕ → Type 0
PackedNext e f w rest = (w ≡ wires.LengthDelimited) × ((packed : Bool) × (f.form ≡ Repeated packed))
    × ((kind : ScalarKind) × (f.value_type.kind ≡ ScalarOf kind) × (is_packable kind ≡ true)
    × ((body after : List ℕ) × DelimitedFront body rest after × ElementFault (kind_wire kind) e body))

abbrev pub Comes : Schema → DecodeError → Place → Type 0
Comes schema errors.Truncated place = ((place.bytes ≢ []) × VarintEnds place.bytes) ⊎ (((place.bytes ≡ []) × (place.open_group ≢ None)) ⊎ (Next place (λ n w rest. PayloadEnds w rest) ⊎ NextField schema place (PackedNext errors.Truncated)))
Comes schema errors.Varint place = VarintPasses place.bytes ⊎ (Next place (λ n w rest. PayloadPasses w rest) ⊎ NextField schema place (PackedNext errors.Varint))
Comes schema errors.Key place = NoKey place.bytes
Comes schema errors.WireType place = NextField schema place (λ f w rest. (w ≢ wires.EndGroup) × (takes f.form f.value_type.kind w ≡ false))
Comes schema errors.EndGroup place = Next place (λ n w rest. (w ≡ wires.EndGroup) × (place.open_group ≢ Some n))
Comes schema errors.Utf8 place = NextField schema place TextNext
Comes schema errors.OutOfMemory place = ⊥
Comes schema errors.Depth place = (place.levels ≡ 0) × Next place (λ n w rest. opens_level (field_at schema place.inside n) w ≡ true)

-- A fault stands at a place if it comes next there, or stands at a further place:
pub data Stands (schema : Schema) : DecodeError → Place → Type 0 where
  Here : {e : DecodeError} {place : Place} → Comes schema e place → Stands schema e place
  -- behind one whole record;
  Behind : {e : DecodeError} {place : Place} (r : Record) (rest : List ℕ) → RecordFront r place.bytes rest
      → Stands schema e (record place { bytes = rest }) → Stands schema e place
  -- in a known message, one level fewer;
  InMessage : {e : DecodeError} {place : Place} (n T k : ℕ) (f : Field) (body rest after : List ℕ)
      → field_at schema place.inside n ≡ Some f → is_map f.form ≡ false → f.value_type.kind ≡ MessageOf T → place.levels ≡ suc k
      → KeyFront n wires.LengthDelimited place.bytes rest → DelimitedFront body rest after
      → Stands schema e (record { bytes = body; inside = OfType T; levels = k; open_group = None }) → Stands schema e place
  -- in a known group, likewise;
  InGroup : {e : DecodeError} {place : Place} (n T k : ℕ) (f : Field) (rest : List ℕ)
      → field_at schema place.inside n ≡ Some f → is_map f.form ≡ false → f.value_type.kind ≡ GroupOf T → place.levels ≡ suc k
      → KeyFront n wires.StartGroup place.bytes rest
      → Stands schema e (record { bytes = rest; inside = OfType T; levels = k; open_group = Some n }) → Stands schema e place
  -- in an unknown group, where no number is known;
  InUnknown : {e : DecodeError} {place : Place} (n k : ℕ) (rest : List ℕ)
      → field_at schema place.inside n ≡ None → place.levels ≡ suc k
      → KeyFront n wires.StartGroup place.bytes rest
      → Stands schema e (record { bytes = rest; inside = OfNothing; levels = k; open_group = Some n }) → Stands schema e place
  -- in a map's entry, with the same levels.
  InEntry : {e : DecodeError} {place : Place} (n : ℕ) (f : Field) (key : ValueType) (body rest after : List ℕ)
      → field_at schema place.inside n ≡ Some f
      → f.form ≡ MapFrom key
      → has_level place.levels f.value_type.kind ≡ true
      → KeyFront n wires.LengthDelimited place.bytes rest
      → DelimitedFront body rest after
      → Stands schema e
      (record { bytes = body; inside = OfEntry key f.value_type; levels = place.levels; open_group = None })
      → Stands schema e place

-- Where a message of a type is read.
abbrev pub StandsInMessage : Schema → ℕ → ℕ → DecodeError → List ℕ → Type 0
StandsInMessage schema T k e bytes = Stands schema e (record { bytes = bytes; inside = OfType T; levels = k; open_group = None })

-- In the unknown group that a start key of the number opens, with so many levels left before it.
pub record InsideGroup (e : DecodeError) (n levels : ℕ) (bytes : List ℕ) : Type 0 where
  pub inner : ℕ
  pub left : levels ≡ suc inner
  pub stands : Stands [] e (record { bytes = bytes; inside = OfNothing; levels = inner; open_group = Some n })

-- Where one unknown field is read: no place is behind it, and without a byte the field is cut short.
abbrev pub FieldPlace : ℕ → List ℕ → Place
FieldPlace levels bytes = record { bytes = bytes; inside = OfNothing; levels = levels; open_group = None }

abbrev pub StandsInField : ℕ → DecodeError → List ℕ → Type 0
StandsInField levels e bytes = Comes [] e (FieldPlace levels bytes)
    ⊎ (((e ≡ errors.Truncated) × (bytes ≡ [])) ⊎ Next (FieldPlace levels bytes) (λ n w rest. (w ≡ wires.StartGroup) × InsideGroup e n levels rest))

-- Where the value behind a key is read: as if the key stood first.
abbrev pub StandsInValue : ℕ → ℕ → WireType → DecodeError → List ℕ → Type 0
StandsInValue levels n w e bytes = StandsInField levels e (short_key n w ++ bytes)

-- The same by what comes next behind the key, whichever place the key stands at.
abbrev pub ValueComes : DecodeError → WireType → ℕ → List ℕ → Type 0
ValueComes errors.EndGroup w levels bytes = w ≡ wires.EndGroup
ValueComes errors.Depth w levels bytes = (w ≡ wires.StartGroup) × (levels ≡ 0)
ValueComes e w levels bytes = PlainFault e w bytes

abbrev pub ValueFault : DecodeError → ℕ → WireType → ℕ → List ℕ → Type 0
ValueFault e n w levels bytes = ValueComes e w levels bytes ⊎ ((w ≡ wires.StartGroup) × InsideGroup e n levels bytes)
