-- Tables with a field of each form, the schema that they give, and tables that are not linked.
use Rattle.std.specs.Prelude.{◌≡◌, ℕ, ◌^◌, true, false, ℤ, pos, List, [], ◌∷◌, Some, None, codes}
use Rattle.prost_reflect_wire.specs.Scalar.{I32, Text, Enum as EnumKind, Open, Closed}
use Rattle.prost_reflect_wire.specs.Schema.{MessageOf, GroupOf, ValueType, Singular, Repeated as ListOf, MapFrom, Schema}
use Rattle.prost_reflect_laws.specs.Examples.Schemas.{scalar_value_type, message_value_type, field, list, extension, member, message, int32, text, required_int32}
use Rattle.prost_reflect_tables.specs.declared.tables.Cardinality.TheVariants.{Optional, Required, Repeated}
use Rattle.prost_reflect_tables.specs.declared.tables.TableKind.{TableKind}
use Rattle.prost_reflect_tables.specs.declared.tables.TableKind.TheVariants.{Int32, String, Message, Enum}
use Rattle.prost_reflect_tables.specs.Rows.{IdentityRow, FieldRow, MessageRow, EnumValueRow, TableRows}
use Rattle.prost_reflect_tables.specs.Shown.{schema_from}
use Rattle.prost_reflect_tables.specs.Linked.{is_linked}

-- The first definition of a file without a package, of this name.
abbrev pub named : List ℕ → IdentityRow
named name = record { file = 0; parent = None; path = []; full_name = name; name = name }

abbrev pub value : ℤ → EnumValueRow
value number = record { id = named (codes "V"); number = number }

-- A singular field without presence, as of a proto3 file.
abbrev pub single : ℕ → TableKind → FieldRow
single n kind = record {
  id = named (codes "f");
  json_name = codes "f";
  number = n;
  is_extension = false;
  kind = kind;
  is_group = false;
  cardinality = Optional;
  is_packed = false;
  supports_presence = false;
  default = None;
  oneof = None;
}

abbrev pub present : ℕ → TableKind → FieldRow
present n kind = record (single n kind) { supports_presence = true }

abbrev pub repeated : ℕ → TableKind → FieldRow
repeated n kind = record (single n kind) { cardinality = Repeated }

abbrev pub type_of_fields : List FieldRow → MessageRow
type_of_fields fields = record { id = named (codes "M"); is_map_entry = false; fields = fields; oneofs = [] }

abbrev pub rows : List MessageRow → TableRows
rows messages = record {
  messages = messages;
  enums = record { id = named (codes "Closed"); values = value (pos 1) ∷ value (pos 0) ∷ []; is_closed = true } ∷ record { id = named (codes "Open"); values = value (pos 0) ∷ []; is_closed = false } ∷ [];
}

-- proto2: { required int32 a = 1; optional string b = 2 [default = "x"]; optional Closed c = 3; } and extend { repeated int32 d = 100 [packed = true]; }
abbrev pub labels : MessageRow
labels = type_of_fields
    (record (present 1 Int32) { cardinality = Required }
    ∷ record (present 2 String) { default = Some (Text (codes "x")) }
    ∷ present 3 (Enum 0)
    ∷ record (repeated 100 Int32) { is_extension = true; is_packed = true }
    ∷ [])

-- A map<string, Open>, a repeated message of the type above, a oneof of a number and such a message, and a repeated group of it.
abbrev pub forms : MessageRow
forms = record (type_of_fields
    (repeated 1 (Message 2)
    ∷ repeated 2 (Message 0)
    ∷ record (present 3 Int32) { oneof = Some 0 }
    ∷ record (present 4 (Message 0)) { oneof = Some 0 }
    ∷ record (repeated 5 (Message 0)) { is_group = true }
    ∷ [])) { oneofs = record { id = named (codes "o"); fields = 2 ∷ 3 ∷ [] } ∷ [] }

-- The map's entries, without presence as in a proto3 file.
abbrev pub entry : MessageRow
entry = record (type_of_fields (single 1 String ∷ single 2 (Enum 1) ∷ [])) { is_map_entry = true }

abbrev pub open_value : ValueType
open_value = scalar_value_type (EnumKind (pos 0) Open) false

abbrev pub schema : Schema
schema =
    message
    (field 1 Singular required_int32
    ∷ field 2 Singular (record (text true) { default = Text (codes "x") })
    ∷ field 3 Singular (scalar_value_type (EnumKind (pos 1) (Closed (pos 1 ∷ pos 0 ∷ []))) true)
    ∷ extension 100 (ListOf true) (int32 false)
    ∷ [])
    ∷ message
    (field 1 (MapFrom (text false)) open_value
    ∷ list 2 false (message_value_type (MessageOf 0))
    ∷ member 3 (int32 true)
    ∷ member 4 (message_value_type (MessageOf 0))
    ∷ list 5 false (message_value_type (GroupOf 0))
    ∷ [])
    ∷ record (message (field 1 Singular (text false) ∷ field 2 Singular open_value ∷ [])) { is_entry = true }
    ∷ []

pub record Tables : Type 0 where
  -- The schema has each field in its form.
  pub shown : schema_from (rows (labels ∷ forms ∷ entry ∷ [])) ≡ schema
  pub linked : is_linked (rows (labels ∷ forms ∷ entry ∷ [])) ≡ true

pub record NotLinked : Type 0 where
  -- A message type or an enum that is not there.
  pub no_message : is_linked (rows (type_of_fields (present 1 (Message 1) ∷ []) ∷ [])) ≡ false
  pub no_enum : is_linked (rows (type_of_fields (present 1 (Enum 2) ∷ []) ∷ [])) ≡ false
  pub no_oneof : is_linked (rows (type_of_fields (record (present 1 Int32) { oneof = Some 0 } ∷ []) ∷ [])) ≡ false
  -- Numbers from 1 to 536870911, ascending.
  pub number_zero : is_linked (rows (type_of_fields (single 0 Int32 ∷ []) ∷ [])) ≡ false
  pub greatest_number : is_linked (rows (type_of_fields (single 536870911 Int32 ∷ []) ∷ [])) ≡ true
  pub number_too_great : is_linked (rows (type_of_fields (single (2 ^ 29) Int32 ∷ []) ∷ [])) ≡ false
  pub one_number_twice : is_linked (rows (type_of_fields (single 1 Int32 ∷ single 1 String ∷ []) ∷ [])) ≡ false
  pub descending : is_linked (rows (type_of_fields (single 2 Int32 ∷ single 1 String ∷ []) ∷ [])) ≡ false
  -- An entry stands in repeated fields alone, and has a key and a value.
  pub lone_entry : is_linked (rows (type_of_fields (present 1 (Message 1) ∷ []) ∷ entry ∷ [])) ≡ false
  pub entry_without_value : is_linked (rows (record (type_of_fields (single 1 String ∷ [])) { is_map_entry = true } ∷ [])) ≡ false
  -- Lists have no presence and no default of their own, and texts are never packed.
  pub list_with_presence : is_linked (rows (type_of_fields (record (repeated 1 Int32) { supports_presence = true } ∷ []) ∷ [])) ≡ false
  pub list_with_default : is_linked (rows (type_of_fields (record (repeated 1 Int32) { default = Some (I32 (pos 5)) } ∷ []) ∷ [])) ≡ false
  pub packed_texts : is_linked (rows (type_of_fields (record (repeated 1 String) { is_packed = true } ∷ []) ∷ [])) ≡ false
