-- What the search for a fault knows of fields, and what it finds. For private contracts alone.
use Rattle.std.specs.Prelude.{◌≡◌, ◌<◌, ◌+◌, ◌⊎◌, ◌∷◌, ℕ, suc, Bool, true, false, List, length, Option, Some, None}
use Rattle.std.specs.Option.{is_some}
use Rattle.std.specs.Str.{is_utf8}
use Rattle.prost_reflect_wire.specs.Record.{Plain, Payload, Flat, Records, plain_wire, payload_wire}
use Rattle.prost_reflect_wire.specs.Scalar.{StringKind}
use Rattle.prost_reflect_wire.specs.Schema.{Kind, GroupOf, ValueType, Singular, Repeated, MapFrom, Field, Schema, is_map}
use Rattle.prost_reflect_wire.specs.Edit.{message_of_kind}
use Rattle.prost_reflect_wire.specs.Front.{PlainFront, DelimitedFront, PayloadFront, PlainFault}
use Rattle.prost_reflect_wire.specs.Grammar.{fits, plains_within}
use Rattle.prost_reflect_wire.specs.Fault.{Place, Inside as Among, OfType, OfEntry, OfNothing, field_at, takes, one_takes, same_wire, ElementFault}
use Rattle.prost_reflect_wire.specs.declared.key.WireType.{WireType}
use Rattle.prost_reflect_wire.specs.declared.key.WireType.TheVariants as wires
use Rattle.prost_reflect_wire.specs.declared.error.DecodeError.{DecodeError}
use Rattle.prost_reflect_wire.specs.declared.error.DecodeError.TheVariants as errors
use Rattle.prost_reflect_laws.specs.Bodies.{Body, payload_allowed}
use Rattle.prost_reflect_tables.specs.Rows.{TableRows, field_row}
use Rattle.prost_reflect_tables.specs.Shown.{schema_from, own_type}
use Rattle.prost_reflect_tables.specs.declared.tables.FieldTable.{FieldTable}
use Rattle.prost_reflect_tables.specs.declared.tables.TableKind.{TableKind}
use Rattle.prost_reflect_tables.specs.declared.tables.TableKind.TheVariants as kinds
use Rattle.prost_reflect_tables.specs.declared.tables.TableKind.TheVariants.{Double, Float, Fixed64, Fixed32, Sfixed32, Sfixed64, String, Bytes}
use Rattle.prost_reflect_faults.specs.Positions.{StandsAt}
use Rattle.prost_reflect_faults.specs.declared.inside.Inside.{Inside}
use Rattle.prost_reflect_faults.specs.declared.inside.Inside.TheVariants.{Message as OfMessage, Entry, Nothing}
use Rattle.prost_reflect_faults.specs.declared.inside.Known.{Known}
use Rattle.prost_reflect_faults.specs.declared.inside.Known.TheVariants.{One, List as Elements, Map}
use Rattle.prost_reflect_faults.specs.declared.inside.Region.{Region}

-- FIELDS

abbrev pub type_of_row : TableRows → FieldTable → ValueType
type_of_row rows f = own_type rows.enums (field_row f)

abbrev pub among : TableRows → Inside → Among
among rows (OfMessage T) = OfType T
among rows (Entry key value) = OfEntry (type_of_row rows key.now) (type_of_row rows value.now)
among rows Nothing = OfNothing

-- A message type alone has maps, whose entries are no level.
abbrev pub rank : Among → ℕ
rank (OfType T) = 1
rank (OfEntry key value_type) = 0
rank OfNothing = 0

-- The message type that the values name is one of the rows.
abbrev pub MessageThere : TableRows → ValueType → Type 0
MessageThere rows value_type = (T : ℕ) → message_of_kind value_type.kind ≡ Some T → T < length rows.messages

abbrev pub InsideThere : TableRows → Inside → Type 0
InsideThere rows (OfMessage T) = T < length rows.messages
InsideThere rows (Entry key value) = MessageThere rows (type_of_row rows key.now) × MessageThere rows (type_of_row rows value.now)
InsideThere rows Nothing = Unit {0}

-- What is known is this field.
abbrev pub IsField : TableRows → Known → Field → Type 0
IsField rows (One row) f = (f.form ≡ Singular) × (f.value_type ≡ type_of_row rows row.now)
IsField rows (Elements row) f = ((packed : Bool) × (f.form ≡ Repeated packed)) × (f.value_type ≡ type_of_row rows row.now)
IsField rows (Map key value) f = (f.form ≡ MapFrom (type_of_row rows key.now)) × (f.value_type ≡ type_of_row rows value.now)

abbrev pub KnownThere : TableRows → Known → Type 0
KnownThere rows (One row) = MessageThere rows (type_of_row rows row.now)
KnownThere rows (Elements row) = MessageThere rows (type_of_row rows row.now)
KnownThere rows (Map key value) = MessageThere rows (type_of_row rows key.now) × MessageThere rows (type_of_row rows value.now)

-- The number is that of a field, which is this one.
pub record KnownAt (rows : TableRows) (inside : Inside) (n : ℕ) (known : Known) : Type 0 where
  pub field : Field
  pub found : field_at (schema_from rows) (among rows inside) n ≡ Some field
  pub is : IsField rows known field
  pub there : KnownThere rows known

abbrev pub LookedUp : TableRows → Inside → ℕ → Option Known → Type 0
LookedUp rows inside n None = field_at (schema_from rows) (among rows inside) n ≡ None
LookedUp rows inside n (Some known) = KnownAt rows inside n known

-- PLACES

abbrev pub place_at : TableRows → Region → List ℕ → Place
place_at rows region bytes = record { bytes = bytes; inside = among rows region.inside; levels = region.levels; open_group = region.open_group }

-- The body that begins there goes up to the rest, and is allowed.
pub record TakesBody (schema : Schema) (place : Place) (rest : List ℕ) : Type 0 where
  pub records : Records
  pub body : Body schema place records rest

-- Behind a key of the number and the wire type there is a payload that is allowed at the place, and then the rest.
pub record TakesPayload (schema : Schema) (place : Place) (n : ℕ) (w : WireType) (bytes rest : List ℕ) : Type 0 where
  pub payload : Payload
  pub wire : payload_wire payload ≡ w
  pub front : PayloadFront n payload bytes rest
  pub allowed : payload_allowed schema place n payload ≡ true

-- The number is that of a field that is no map, of this kind; a record of the wire type is no packed list of it.
pub record KindField (schema : Schema) (place : Place) (n : ℕ) (w : WireType) (kind : Kind) : Type 0 where
  pub field : Field
  pub found : field_at schema place.inside n ≡ Some field
  pub single : is_map field.form ≡ false
  pub takes_one : takes field.form field.value_type.kind w ≡ one_takes field.value_type.kind w
  pub kind_is : field.value_type.kind ≡ kind

-- The number is that of a list of this kind.
pub record ListField (schema : Schema) (place : Place) (n : ℕ) (kind : Kind) : Type 0 where
  pub field : Field
  pub packed : Bool
  pub found : field_at schema place.inside n ≡ Some field
  pub form : field.form ≡ Repeated packed
  pub kind_is : field.value_type.kind ≡ kind

-- The number is that of a map of these types.
pub record MapField (schema : Schema) (place : Place) (n : ℕ) (key value_type : ValueType) : Type 0 where
  pub field : Field
  pub found : field_at schema place.inside n ≡ Some field
  pub form : field.form ≡ MapFrom key
  pub value_is : field.value_type ≡ value_type

-- What a group of the number has inside: what its field says, or nothing that is known.
abbrev pub GroupInside : Schema → Place → ℕ → Among → Type 0
GroupInside schema place n (OfType T) = KindField schema place n wires.StartGroup (GroupOf T)
GroupInside schema place n (OfEntry key value_type) = ⊥
GroupInside schema place n OfNothing = field_at schema place.inside n ≡ None

-- The fault stands inside of the field of the number, whose bytes begin so many bytes behind the record.
pub record StandsInside (schema : Schema) (place : Place) (n before : ℕ) (e : DecodeError) (offset : ℕ) (path : List ℕ) : Type 0 where
  pub inner_offset : ℕ
  pub inner_path : List ℕ
  pub stands : StandsAt schema place e inner_offset inner_path
  pub offset_is : offset ≡ before + inner_offset
  pub path_is : path ≡ n ∷ inner_path

-- PAYLOADS

-- A payload of the wire type, and then the rest.
pub record TakesPlain (w : WireType) (bytes rest : List ℕ) : Type 0 where
  pub plain : Plain
  pub wire : plain_wire plain ≡ w
  pub front : PlainFront plain bytes rest

-- The wire type of the payloads of a scalar kind.
abbrev pub wire_of_kind : TableKind → WireType
wire_of_kind Double = wires.SixtyFourBit
wire_of_kind Fixed64 = wires.SixtyFourBit
wire_of_kind Sfixed64 = wires.SixtyFourBit
wire_of_kind Float = wires.ThirtyTwoBit
wire_of_kind Fixed32 = wires.ThirtyTwoBit
wire_of_kind Sfixed32 = wires.ThirtyTwoBit
wire_of_kind String = wires.LengthDelimited
wire_of_kind Bytes = wires.LengthDelimited
wire_of_kind kind = wires.Varint

-- One that is a scalar of the kind: of its wire type, and text if the kind is a string.
pub record TakesScalar (kind : TableKind) (w : WireType) (bytes rest : List ℕ) : Type 0 where
  pub plain : Plain
  pub wire : plain_wire plain ≡ w
  pub front : PlainFront plain bytes rest
  pub named : w ≡ wire_of_kind kind
  pub text : kind ≡ kinds.String → fits StringKind (Flat plain) ≡ true

abbrev pub RefusesScalar : TableKind → WireType → DecodeError → List ℕ → Type 0
RefusesScalar kind w errors.WireType bytes = same_wire w (wire_of_kind kind) ≡ false
RefusesScalar kind w errors.Utf8 bytes = (kind ≡ kinds.String) × (w ≡ wires.LengthDelimited)
    × ((body rest : List ℕ) × DelimitedFront body bytes rest × (is_utf8 body ≡ false))
RefusesScalar kind w e bytes = PlainFault e w bytes

-- Payloads of the wire type, end to end.
abbrev pub AreElements : WireType → List ℕ → Type 0
AreElements w body = is_some (plains_within (suc (length body)) w body) ≡ true

-- A packed record of the kind, and then the rest.
pub record TakesPacked (kind : TableKind) (bytes rest : List ℕ) : Type 0 where
  pub body : List ℕ
  pub front : DelimitedFront body bytes rest
  pub elements : AreElements (wire_of_kind kind) body

abbrev pub RefusesPacked : TableKind → DecodeError → List ℕ → Type 0
RefusesPacked kind e bytes = PlainFault e wires.LengthDelimited bytes ⊎ ((body rest : List ℕ) × DelimitedFront body bytes rest × ElementFault (wire_of_kind kind) e body)
