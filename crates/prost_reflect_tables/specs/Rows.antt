-- The rows of the tables: what they say, and not where it lies in memory.
use Rattle.std.specs.Prelude.{ℕ, ℤ, Bool, List, map, Option, None, Some, option_map, take, drop, string_bytes, String as Text, Box}
use Rattle.std.specs.declared.alloc.Global.{Global}
use Rattle.prost_reflect_wire.specs.Scalar as scalars
use Rattle.prost_reflect_wire.specs.Scalar.{Scalar}
use Rattle.prost_reflect_tables.specs.declared.tables.Cardinality.{Cardinality}
use Rattle.prost_reflect_tables.specs.declared.tables.TableKind.{TableKind}
use Rattle.prost_reflect_tables.specs.declared.tables.WrittenDefault.{WrittenDefault}
use Rattle.prost_reflect_tables.specs.declared.tables.WrittenDefault.TheVariants.{Bool as BoolDefault, I32, I64, U32, U64, F32, F64, String, Bytes, EnumNumber}
use Rattle.prost_reflect_tables.specs.declared.definition_names.DefinitionNames.{DefinitionNames}
use Rattle.prost_reflect_tables.specs.declared.tables.Identity.{Identity}
use Rattle.prost_reflect_tables.specs.declared.tables.FieldTable.{FieldTable}
use Rattle.prost_reflect_tables.specs.declared.tables.OneofTable.{OneofTable}
use Rattle.prost_reflect_tables.specs.declared.tables.MessageTable.{MessageTable}
use Rattle.prost_reflect_tables.specs.declared.tables.EnumValueTable.{EnumValueTable}
use Rattle.prost_reflect_tables.specs.declared.tables.EnumTable.{EnumTable}

-- Where a definition stands: the place of its file, the place of the message type around it, its path in the file, its full name and its own name.
pub record IdentityRow : Type 0 where
  pub file : ℕ
  pub parent : Option ℕ
  pub path : List ℤ
  pub full_name : List ℕ
  pub name : List ℕ

pub record FieldRow : Type 0 where
  pub id : IdentityRow
  pub json_name : List ℕ
  pub number : ℕ
  pub is_extension : Bool
  pub kind : TableKind
  pub is_group : Bool
  pub cardinality : Cardinality
  pub is_packed : Bool
  pub supports_presence : Bool
  pub default : Option Scalar
  pub oneof : Option ℕ

pub record OneofRow : Type 0 where
  pub id : IdentityRow
  pub fields : List ℕ

pub record MessageRow : Type 0 where
  pub id : IdentityRow
  pub is_map_entry : Bool
  pub fields : List FieldRow
  pub oneofs : List OneofRow

pub record EnumValueRow : Type 0 where
  pub id : IdentityRow
  pub number : ℤ

pub record EnumRow : Type 0 where
  pub id : IdentityRow
  pub values : List EnumValueRow
  pub is_closed : Bool

pub record TableRows : Type 0 where
  pub messages : List MessageRow
  pub enums : List EnumRow

-- The numbers of an enum's values.
abbrev pub value_numbers : EnumRow → List ℤ
value_numbers e = map (λ v. v.number) e.values

abbrev pub written_scalar : WrittenDefault → Scalar
written_scalar (BoolDefault b) = scalars.Boolean b
written_scalar (I32 z) = scalars.I32 z
written_scalar (I64 z) = scalars.I64 z
written_scalar (U32 n) = scalars.U32 n
written_scalar (U64 n) = scalars.U64 n
written_scalar (F32 n) = scalars.F32 n
written_scalar (F64 n) = scalars.F64 n
written_scalar (String s) = scalars.Text (string_bytes s)
written_scalar (Bytes v) = scalars.Bytes v.items
written_scalar (EnumNumber z) = scalars.EnumNumber z

-- That of a field, which stands apart from its row.
abbrev pub boxed_scalar : Box WrittenDefault Global → Scalar
boxed_scalar b = written_scalar b.value

-- The full name stands at the front of the text of both names, the own name at its end.
abbrev pub full_name_of : DefinitionNames → List ℕ
full_name_of names = take names.end (string_bytes names.text)

abbrev pub name_of : DefinitionNames → List ℕ
name_of names = drop names.start (string_bytes names.text)

abbrev pub identity_row : Identity → IdentityRow
identity_row i = record { file = i.file; parent = i.parent; path = i.path.items; full_name = full_name_of i.names; name = name_of i.names }

-- A name in JSON that is not stored is the own name.
abbrev pub json_name_of : (json_name : Option (Box (Text Global) Global)) → (name : List ℕ) → List ℕ
json_name_of None name = name
json_name_of (Some text) name = string_bytes text.value

abbrev pub field_row : FieldTable → FieldRow
field_row f = record {
  id = identity_row f.id;
  json_name = json_name_of f.json_name (name_of f.id.names);
  number = f.number;
  is_extension = f.is_extension;
  kind = f.kind;
  is_group = f.is_group;
  cardinality = f.cardinality;
  is_packed = f.is_packed;
  supports_presence = f.supports_presence;
  default = option_map boxed_scalar f.default;
  oneof = f.oneof;
}

abbrev pub oneof_row : OneofTable → OneofRow
oneof_row o = record { id = identity_row o.id; fields = o.fields.items }

abbrev pub message_row : MessageTable → MessageRow
message_row m = record { id = identity_row m.id; is_map_entry = m.is_map_entry; fields = map field_row m.fields.items; oneofs = map oneof_row m.oneofs.items }

abbrev pub enum_value_row : EnumValueTable → EnumValueRow
enum_value_row v = record { id = identity_row v.id; number = v.number }

abbrev pub enum_row : EnumTable → EnumRow
enum_row e = record { id = identity_row e.id; values = map enum_value_row e.values.items; is_closed = e.is_closed }

abbrev pub rows_from : List MessageTable → List EnumTable → TableRows
rows_from messages enums = record { messages = map message_row messages; enums = map enum_row enums }
