-- What the steps of reading a message have read, and what they refuse.
use Rattle.std.specs.Prelude.{◌≡◌, ◌≢◌, ℕ, ◌⊎◌, Bool, true, false, not, ◌||◌, List, [], ◌∷◌, map, filter, flat_map, Option, Some}
use Rattle.std.specs.Str.{is_utf8}
use Rattle.prost_reflect_wire.specs.declared.key.WireType.{WireType}
use Rattle.prost_reflect_wire.specs.declared.key.WireType.TheVariants as wires
use Rattle.prost_reflect_wire.specs.declared.error.DecodeError.{DecodeError}
use Rattle.prost_reflect_wire.specs.declared.error.DecodeError.TheVariants as errors
use Rattle.prost_reflect_wire.specs.Varint.{◌>>=◌}
use Rattle.prost_reflect_wire.specs.Record.{Plain, Payload, Flat, Record, body_of, plain_wire}
use Rattle.prost_reflect_wire.specs.Front.{KeyFront, PlainFront, DelimitedFront, ValueFront, RecordsFront, PayloadEnds, PayloadPasses}
use Rattle.prost_reflect_wire.specs.Scalar.{Scalar, ScalarKind, StringKind, kind_wire, elem, is_undeclared}
use Rattle.prost_reflect_wire.specs.Schema.{ScalarOf, Field}
use Rattle.prost_reflect_wire.specs.Content.{Content, Value, Values, values_from, schema_of, type_of, entries_of, slot_at}
use Rattle.prost_reflect_wire.specs.Grammar.{fits, packed_allowed, unpacked, element_payloads_in, allows}
use Rattle.prost_reflect_wire.specs.Meaning.{scalar_values, steps}
use Rattle.prost_reflect_wire.specs.Writing.{record_at}
use Rattle.prost_reflect_wire.specs.Typing.{kept, WellStored}
use Rattle.prost_reflect_wire.specs.Storing.{joined_slot}
use Rattle.prost_reflect_wire.specs.Fault.{PackedNext, TextNext, takes, OfType, Stands, same_wire}

-- The bytes before the rest are records that the old content's type takes, and the new content is what they make of the old one.
pub record ReadTo (levels : ℕ) (old new : Content) (bytes rest : List ℕ) : Type 0 where
  pub records : List Record
  pub front : RecordsFront (body_of records) bytes rest
  pub allowed : allows (schema_of old) levels (type_of old) records ≡ true
  pub means : kept new ≡ steps levels (kept old) records

-- Behind a key, a payload is read, and its record makes the new content of the old one.
pub record RecordRead (levels n : ℕ) (w : WireType) (old new : Content) (bytes rest : List ℕ) : Type 0 where
  pub payload : Payload
  pub value : ValueFront n w levels payload bytes rest
  pub allowed : allows (schema_of old) levels (type_of old) (record_at n payload ∷ []) ≡ true
  pub means : kept new ≡ steps levels (kept old) (record_at n payload ∷ [])

-- READING INTO A MESSAGE

-- The new content is of the old one's type, and well-stored.
pub record Holds (old new : Content) : Type 0 where
  pub schema : schema_of new ≡ schema_of old
  pub type : type_of new ≡ type_of old
  pub sound : WellStored new

-- So far the message was read, and still holds.
pub record Progress (levels : ℕ) (old new : Content) (bytes rest : List ℕ) : Type 0 where
  pub read : ReadTo levels old new bytes rest
  pub holds : Holds old new

-- One record more was read, and the message still holds.
pub record Step (levels n : ℕ) (w : WireType) (old new : Content) (bytes rest : List ℕ) : Type 0 where
  pub read : RecordRead levels n w old new bytes rest
  pub holds : Holds old new

-- Wherever such a key comes in front of the bytes, in a message or in an open group that it does not end, the fault is there.
abbrev pub StandsBehindKey : Content → ℕ → ℕ → WireType → DecodeError → List ℕ → Type 0
StandsBehindKey c levels n w e rest = (bytes : List ℕ) (open_group : Option ℕ) → KeyFront n w bytes rest
    → (w ≡ wires.EndGroup → open_group ≢ Some n)
    → Stands (schema_of c) e
    (record { bytes = bytes; inside = OfType (type_of c); levels = levels; open_group = open_group })

-- READING INTO A GROUP

-- Behind a start key of the number: the records that were read, and the end key.
pub record GroupProgress (levels n : ℕ) (old new : Content) (bytes rest : List ℕ) : Type 0 where
  pub end : List ℕ
  pub progress : Progress levels old new bytes end
  pub stop : KeyFront n wires.EndGroup end rest

-- The bytes have the fault, as those of the group that a start key of the number opens.
abbrev pub StandsInGroup : Content → ℕ → ℕ → DecodeError → List ℕ → Type 0
StandsInGroup c levels n e bytes = Stands (schema_of c) e (record { bytes = bytes; inside = OfType (type_of c); levels = levels; open_group = Some n })

-- What keeps a field from being read behind its key.
abbrev pub FieldFault : DecodeError → Field → WireType → List ℕ → Type 0
FieldFault errors.Truncated f w bytes = PayloadEnds w bytes ⊎ PackedNext errors.Truncated f w bytes
FieldFault errors.Varint f w bytes = PayloadPasses w bytes ⊎ PackedNext errors.Varint f w bytes
FieldFault errors.WireType f w bytes = (w ≢ wires.EndGroup) × (takes f.form f.value_type.kind w ≡ false)
FieldFault errors.EndGroup f w bytes = w ≡ wires.EndGroup
FieldFault errors.Utf8 f w bytes = TextNext f w bytes
FieldFault e f w bytes = ⊥

-- SCALARS

-- Behind a key, the payload of a value of the kind.
pub record ScalarRead (kind : ScalarKind) (w : WireType) (v : Scalar) (bytes rest : List ℕ) : Type 0 where
  pub plain : Plain
  pub wire : plain_wire plain ≡ w
  pub front : PlainFront plain bytes rest
  pub value : elem kind (Flat plain) ≡ Some v

-- Why there is none.
abbrev pub ScalarFault : ScalarKind → WireType → DecodeError → List ℕ → Type 0
ScalarFault kind w errors.Truncated bytes = PayloadEnds w bytes
ScalarFault kind w errors.Varint bytes = PayloadPasses w bytes
ScalarFault kind w errors.WireType bytes = (w ≢ wires.EndGroup) × (same_wire w (kind_wire kind) ≡ false)
ScalarFault kind w errors.EndGroup bytes = w ≡ wires.EndGroup
ScalarFault kind w errors.Utf8 bytes = (w ≡ wires.LengthDelimited) × (kind ≡ StringKind)
    × ((body rest : List ℕ) × DelimitedFront body bytes rest × (is_utf8 body ≡ false))
ScalarFault kind w e bytes = ⊥

-- LISTS OF SCALARS

-- One element, or packed ones.
abbrev pub list_takes : ScalarKind → Payload → Bool
list_takes kind p = fits kind p || packed_allowed (ScalarOf kind) p

-- The values of the elements of a payload.
abbrev pub element_values : ScalarKind → Payload → List Value
element_values kind p = flat_map (λ q. scalar_values (elem kind q)) (element_payloads_in (ScalarOf kind) p)

-- Behind a key, a payload that a list of the kind takes, with these elements.
pub record ElementsRead (kind : ScalarKind) (w : WireType) (vs : List Value) (bytes rest : List ℕ) : Type 0 where
  pub plain : Plain
  pub wire : plain_wire plain ≡ w
  pub front : PlainFront plain bytes rest
  pub taken : list_takes kind (Flat plain) ≡ true
  pub values : vs ≡ element_values kind (Flat plain)

-- The values of the elements of a packed record.
abbrev pub packed_values : ScalarKind → List ℕ → Option (List Value)
packed_values kind body = unpacked kind body >>= λ ps. Some (flat_map (λ p. scalar_values (elem kind (Flat p))) ps)

-- The new content is the old one with values behind those of the field's list, and strays behind the unknown records of its number.
pub record ElementsJoined (f : Field) (added : Values) (strays : List Payload) (old new : Content) : Type 0 where
  pub slots : (m : ℕ) → slot_at (entries_of new) m ≡ joined_slot f added strays m (slot_at (entries_of old) m)
  pub holds : Holds old new

-- LISTS OF ENUM NUMBERS

-- The values of the payloads whose numbers are declared.
abbrev pub declared_values : ScalarKind → List Payload → Values
declared_values kind ps = values_from (flat_map (λ q. scalar_values (elem kind q)) (filter (λ q. not (is_undeclared kind q)) ps))

-- The payloads were read one by one: the declared numbers are elements, and the others unknown records.
abbrev pub NumbersJoined : Field → ScalarKind → List Payload → Content → Content → Type 0
NumbersJoined f kind ps old new = ElementsJoined f (declared_values kind ps) (filter (is_undeclared kind) ps) old new

-- The numbers of a packed record were.
pub record BodyJoined (f : Field) (kind : ScalarKind) (old new : Content) (body : List ℕ) : Type 0 where
  pub plains : List Plain
  pub whole : unpacked kind body ≡ Some plains
  pub joined : NumbersJoined f kind (map Flat plains) old new
