-- The rows as a schema of the definitions.
use Rattle.std.specs.Prelude.{ℤ, pos, Bool, true, false, if◌then◌else◌, List, [], ◌∷◌, map, Option, Some, None, slice_get}
use Rattle.prost_reflect_wire.specs.Scalar as scalars
use Rattle.prost_reflect_wire.specs.Scalar.{Scalar, ScalarKind, EnumNumbers, kind_default}
use Rattle.prost_reflect_wire.specs.Schema.{Kind, ScalarOf, MessageOf, GroupOf, ValueType, FieldForm, Singular, Repeated, MapFrom, Field, MessageType, Schema}
use Rattle.prost_reflect_tables.specs.declared.tables.Cardinality.{Cardinality}
use Rattle.prost_reflect_tables.specs.declared.tables.Cardinality.TheVariants.{Required, Repeated as RepeatedLabel}
use Rattle.prost_reflect_tables.specs.declared.tables.TableKind.{TableKind}
use Rattle.prost_reflect_tables.specs.declared.tables.TableKind.TheVariants.{Double, Float, Int32, Int64, Uint32, Uint64, Sint32, Sint64, Fixed32, Fixed64, Sfixed32, Sfixed64, Bool as BoolKind, String, Bytes, Message, Enum}
use Rattle.prost_reflect_tables.specs.Rows.{FieldRow, MessageRow, EnumRow, TableRows, value_numbers}

abbrev pub first_number : List ℤ → ℤ
first_number [] = pos 0
first_number (z ∷ numbers) = z

abbrev pub enum_numbers : EnumRow → EnumNumbers
enum_numbers e = if e.is_closed then scalars.Closed (value_numbers e) else scalars.Open

-- Nothing is meant by an enum that is not there.
abbrev pub enum_kind : Option EnumRow → ScalarKind
enum_kind None = scalars.Enum (pos 0) scalars.Open
enum_kind (Some e) = scalars.Enum (first_number (value_numbers e)) (enum_numbers e)

abbrev pub schema_kind : List EnumRow → TableKind → (is_group : Bool) → Kind
schema_kind enums Double g = ScalarOf scalars.Double
schema_kind enums Float g = ScalarOf scalars.Float
schema_kind enums Int32 g = ScalarOf scalars.Int32
schema_kind enums Int64 g = ScalarOf scalars.Int64
schema_kind enums Uint32 g = ScalarOf scalars.Uint32
schema_kind enums Uint64 g = ScalarOf scalars.Uint64
schema_kind enums Sint32 g = ScalarOf scalars.Sint32
schema_kind enums Sint64 g = ScalarOf scalars.Sint64
schema_kind enums Fixed32 g = ScalarOf scalars.Fixed32
schema_kind enums Fixed64 g = ScalarOf scalars.Fixed64
schema_kind enums Sfixed32 g = ScalarOf scalars.Sfixed32
schema_kind enums Sfixed64 g = ScalarOf scalars.Sfixed64
schema_kind enums BoolKind g = ScalarOf scalars.BoolKind
schema_kind enums String g = ScalarOf scalars.StringKind
schema_kind enums Bytes g = ScalarOf scalars.BytesKind
schema_kind enums (Enum E) g = ScalarOf (enum_kind (slice_get enums E))
schema_kind enums (Message T) g = if g then GroupOf T else MessageOf T

-- The default that is written, else the kind's. A message's says nothing.
abbrev pub schema_default : Option Scalar → Kind → Scalar
schema_default (Some v) kind = v
schema_default None (ScalarOf kind) = kind_default kind
schema_default None kind = scalars.I32 (pos 0)

abbrev pub is_required : Cardinality → Bool
is_required Required = true
is_required c = false

-- The type of a row's own values.
abbrev pub own_type : List EnumRow → FieldRow → ValueType
own_type enums f = let kind = schema_kind enums f.kind f.is_group in record {
  kind = kind;
  presence = f.supports_presence;
  required = is_required f.cardinality;
  default = schema_default f.default kind;
}

-- MAPS

abbrev pub entry_or_none : Option MessageRow → Option MessageRow
entry_or_none None = None
entry_or_none (Some m) = if m.is_map_entry then Some m else None

-- The message type of a map's entries, if the kind is such a type.
abbrev pub entry_at : List MessageRow → TableKind → Option MessageRow
entry_at messages (Message T) = entry_or_none (slice_get messages T)
entry_at messages kind = None

-- Only a repeated field is a map, and no group.
abbrev pub map_entry : List MessageRow → FieldRow → Cardinality → Option MessageRow
map_entry messages f RepeatedLabel = if f.is_group then None else entry_at messages f.kind
map_entry messages f c = None

-- The type of the field at a place of an entry; nothing is meant where there is none.
abbrev pub type_or : List EnumRow → FieldRow → Option FieldRow → ValueType
type_or enums f None = own_type enums f
type_or enums f (Some part) = own_type enums part

abbrev pub value_type_of : List EnumRow → FieldRow → Option MessageRow → ValueType
value_type_of enums f None = own_type enums f
value_type_of enums f (Some entry) = type_or enums f (slice_get entry.fields 1)

abbrev pub form_of : List EnumRow → FieldRow → Cardinality → Option MessageRow → FieldForm
form_of enums f RepeatedLabel None = Repeated f.is_packed
form_of enums f RepeatedLabel (Some entry) = MapFrom (type_or enums f (slice_get entry.fields 0))
form_of enums f c entry = Singular

-- MESSAGE TYPES

abbrev pub schema_field : TableRows → FieldRow → Field
schema_field rows f = let entry = map_entry rows.messages f f.cardinality in record {
  number = f.number;
  is_extension = f.is_extension;
  form = form_of rows.enums f f.cardinality entry;
  value_type = value_type_of rows.enums f entry;
  oneof = f.oneof;
}

abbrev pub schema_message : TableRows → MessageRow → MessageType
schema_message rows m = record { is_entry = m.is_map_entry; known = map (schema_field rows) m.fields }

unfoldable pub schema_from : TableRows → Schema
schema_from rows = map (schema_message rows) rows.messages
