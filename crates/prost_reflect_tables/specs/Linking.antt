-- The rows of the tables that files in flat lists give (the language guide and the proto2 guide on labels, presence, packing, oneofs, extensions and enums). What a fault would leave open has some meaning too, so that every file is linked.
use Rattle.std.specs.Prelude.{ℕ, ◌+◌, ◌-◌, nat_eq, nat_lt, nat_le, ℤ, pos, negsuc, Bool, true, false, not, ◌&&◌, ◌||◌, if◌then◌else◌, List, [], ◌∷◌, ◌++◌, length, map, filter, slice_get, Option, Some, None, is_some, unwrap_or, String, string_bytes}
use Rattle.std.specs.declared.alloc.Global.{Global}
use Rattle.prost_reflect_wire.specs.Scalar.{Scalar}
use Rattle.prost_reflect_types.specs.declared.FieldDescriptorProto.{FieldDescriptorProto}
use Rattle.prost_reflect_types.specs.declared.OneofDescriptorProto.{OneofDescriptorProto}
use Rattle.prost_reflect_types.specs.declared.EnumValueDescriptorProto.{EnumValueDescriptorProto}
use Rattle.prost_reflect_tables.specs.declared.tables.Cardinality.{Cardinality}
use Rattle.prost_reflect_tables.specs.declared.tables.Cardinality.TheVariants.{Optional, Required, Repeated}
use Rattle.prost_reflect_tables.specs.declared.tables.TableKind.{TableKind}
use Rattle.prost_reflect_tables.specs.declared.tables.TableKind.TheVariants.{Double, Float, Int32, Int64, Uint32, Uint64, Sint32, Sint64, Fixed32, Fixed64, Sfixed32, Sfixed64, Bool as BoolKind, String as StringKind, Bytes, Message, Enum}
use Rattle.prost_reflect_tables.specs.Rows.{IdentityRow, FieldRow, OneofRow, MessageRow, EnumValueRow, EnumRow, TableRows}
use Rattle.prost_reflect_tables.specs.Names.{text_or_empty, bracketed}
use Rattle.prost_reflect_tables.specs.Flat.{DefinitionRow, FlatMessageRow, FlatEnumRow, FlatRows}
use Rattle.prost_reflect_tables.specs.Faults.{message_names, enum_names, place_named}
use Rattle.prost_reflect_tables.specs.Options.{bool_option}
use Rattle.prost_reflect_tables.specs.WrittenDefaults.{field_default}

-- NUMBERS

-- A number that is absent or negative counts as 0.
abbrev pub natural_or_zero : Option ℤ → ℕ
natural_or_zero None = 0
natural_or_zero (Some (pos n)) = n
natural_or_zero (Some (negsuc n)) = 0

-- No place is negative.
abbrev pub place_in : Option ℤ → Option ℕ
place_in None = None
place_in (Some (pos i)) = Some i
place_in (Some (negsuc i)) = None

abbrev pub is_place : ℕ → Option ℕ → Bool
is_place i None = false
is_place i (Some j) = nat_eq i j

-- IDENTITIES

-- Where a definition of this name stands.
abbrev pub linked_identity : {R : Type 0} → (name : Option (String Global)) → DefinitionRow R → IdentityRow
linked_identity name d = record { file = d.file; parent = d.parent; path = d.path; full_name = d.full_name; name = text_or_empty name }

-- NAMES

-- The full names of messages and enums, each at its place, and the values of the enums.
pub record Links : Type 0 where
  pub messages : List (List ℕ)
  pub enums : List (List ℕ)
  pub values : List (List EnumValueRow)

-- A value without a number has 0.
abbrev pub value_number : DefinitionRow EnumValueDescriptorProto → ℤ
value_number v = unwrap_or v.proto.number (pos 0)

abbrev pub linked_value : DefinitionRow EnumValueDescriptorProto → EnumValueRow
linked_value v = record { id = linked_identity v.proto.name v; number = value_number v }

abbrev pub links_of : FlatRows → Links
links_of rows = record {
  messages = message_names rows;
  enums = enum_names rows;
  values = map (λ e. map linked_value e.values) rows.enums;
}

-- A name that is not there stands for the first one.
abbrev pub place_or_first : List (List ℕ) → Option (String Global) → ℕ
place_or_first names text = unwrap_or (place_named names text) 0

-- KINDS

-- The kinds by type code, from 1 to 18 (descriptor.proto, `FieldDescriptorProto.Type`).
abbrev pub kinds : (message enum : ℕ) → List TableKind
kinds message enum =
    Double ∷ Float ∷ Int64 ∷ Uint64 ∷ Int32 ∷ Fixed64 ∷ Fixed32 ∷ BoolKind ∷ StringKind
    ∷ Message message ∷ Message message ∷ Bytes ∷ Uint32 ∷ Enum enum ∷ Sfixed32 ∷ Sfixed64 ∷ Sint32 ∷ Sint64 ∷ []

-- Of another code, the first one.
abbrev pub kind_of_code : (message enum code : ℕ) → TableKind
kind_of_code message enum code = unwrap_or (slice_get (kinds message enum) (code - 1)) Double

abbrev pub linked_kind : Links → FieldDescriptorProto → TableKind
linked_kind links f = kind_of_code (place_or_first links.messages f.type_name) (place_or_first links.enums f.type_name) (natural_or_zero f.type_)

abbrev pub is_group_code : ℕ → Bool
is_group_code code = nat_eq code 10

abbrev pub is_message : TableKind → Bool
is_message (Message T) = true
is_message kind = false

-- Numbers, bools and enums.
abbrev pub is_packable : TableKind → Bool
is_packable StringKind = false
is_packable Bytes = false
is_packable (Message T) = false
is_packable kind = true

-- LABELS

-- The label 2 is required and 3 repeated; any other is optional, and so is none.
abbrev pub cardinality_of_label : ℕ → Cardinality
cardinality_of_label label = if nat_eq label 2 then Required else if nat_eq label 3 then Repeated else Optional

abbrev pub is_repeated : Cardinality → Bool
is_repeated Repeated = true
is_repeated c = false

-- NAMES IN JSON

-- That of a field's record, or the field's name where the record has none.
abbrev pub json_name_or : Option (String Global) → (name : Option (String Global)) → List ℕ
json_name_or None name = text_or_empty name
json_name_or (Some s) name = string_bytes s

-- An extension has its full name in brackets.
abbrev pub json_name : (is_extension : Bool) → DefinitionRow FieldDescriptorProto → List ℕ
json_name false d = json_name_or d.proto.json_name d.proto.name
json_name true d = bracketed d.full_name

-- FIELDS

-- Packed as the option says; without it, in proto3 alone. Only lists of packable kinds are packed.
abbrev pub linked_packed : (is_proto3 : Bool) → FieldDescriptorProto → Cardinality → TableKind → Bool
linked_packed is_proto3 f c kind = is_repeated c && is_packable kind && unwrap_or (bool_option 2 f.options) is_proto3

-- In proto2 each field that is not repeated has presence, and so has each such extension. In proto3 messages have it, members of oneofs, and fields that are marked `optional`.
abbrev pub linked_presence : (is_proto3 is_extension : Bool) → FieldDescriptorProto → Cardinality → TableKind → Bool
linked_presence is_proto3 is_extension f c kind =
    not (is_repeated c) && (not is_proto3 || is_extension || is_message kind || is_some f.oneof_index || unwrap_or f.proto3_optional false)

-- The values of the enum that a kind names.
abbrev pub values_of_kind : Links → TableKind → List EnumValueRow
values_of_kind links (Enum E) = unwrap_or (slice_get links.values E) []
values_of_kind links kind = []

-- A text that gives no value is no default.
abbrev pub linked_default : Links → TableKind → Option (String Global) → Option Scalar
linked_default links kind None = None
linked_default links kind (Some text) = field_default kind (values_of_kind links kind) (string_bytes text)

-- With this kind and this default.
abbrev pub field_with : (is_extension : Bool) → DefinitionRow FieldDescriptorProto → TableKind → (default : Option Scalar) → FieldRow
field_with is_extension d kind default =
    let f = d.proto in
    let cardinality = cardinality_of_label (natural_or_zero f.label) in
    record {
      id = linked_identity f.name d;
      json_name = json_name is_extension d;
      number = natural_or_zero f.number;
      is_extension = is_extension;
      kind = kind;
      is_group = is_group_code (natural_or_zero f.type_);
      cardinality = cardinality;
      is_packed = linked_packed d.is_proto3 f cardinality kind;
      supports_presence = linked_presence d.is_proto3 is_extension f cardinality kind;
      default = default;
      oneof = place_in f.oneof_index;
    }

unfoldable pub linked_field : Links → (is_extension : Bool) → DefinitionRow FieldDescriptorProto → FieldRow
linked_field links is_extension d = field_with is_extension d (linked_kind links d.proto) (linked_default links (linked_kind links d.proto) d.proto.default_value)

-- ORDER

-- A row in front of the first one that has no smaller number.
abbrev pub put_in_order : FieldRow → List FieldRow → List FieldRow
put_in_order f [] = f ∷ []
put_in_order f (g ∷ fields) = if nat_le f.number g.number then f ∷ g ∷ fields else g ∷ put_in_order f fields

-- Ascending by number; rows of one number in the order that they had.
abbrev pub in_order : List FieldRow → List FieldRow
in_order [] = []
in_order (f ∷ fields) = put_in_order f (in_order fields)

-- The place of the message that an extension extends.
abbrev pub extended_place : Links → DefinitionRow FieldDescriptorProto → Option ℕ
extended_place links d = place_named links.messages d.proto.extendee

-- Those of the definitions that belong to the place.
abbrev pub belonging : {X : Type 0} → (X → Option ℕ) → List X → ℕ → List X
belonging place xs i = filter (λ x. is_place i (place x)) xs

-- The fields of the message at a place, and behind them its extensions.
abbrev pub declared_fields : Links → List (DefinitionRow FieldDescriptorProto) → List FieldRow
declared_fields links ds = map (linked_field links false) ds

abbrev pub fields_of_message : Links → (extensions : List (DefinitionRow FieldDescriptorProto)) → ℕ → FlatMessageRow → List FieldRow
fields_of_message links extensions T m = declared_fields links m.fields
    ++ map (linked_field links true) (belonging (extended_place links) extensions T)

-- ONEOFS

abbrev pub oneof_place : DefinitionRow FieldDescriptorProto → Option ℕ
oneof_place d = place_in d.proto.oneof_index

-- The place of a field among the fields in order: how many have a smaller number.
abbrev pub member_place : List FieldRow → DefinitionRow FieldDescriptorProto → ℕ
member_place fields d = length (filter (λ f. nat_lt f.number (natural_or_zero d.proto.number)) fields)

abbrev pub linked_oneof : List FieldRow → (members : List (DefinitionRow FieldDescriptorProto))
    → DefinitionRow OneofDescriptorProto
    → OneofRow
linked_oneof fields members d = record { id = linked_identity d.proto.name d; fields = map (member_place fields) members }

-- Oneofs with their members in the order of their declaration; the first oneof is at the place.
abbrev pub oneofs_from : List FieldRow → List (DefinitionRow FieldDescriptorProto) → ℕ
    → List (DefinitionRow OneofDescriptorProto)
    → List OneofRow
oneofs_from fields declared o [] = []
oneofs_from fields declared o (d ∷ ds) = linked_oneof fields (belonging oneof_place declared o) d ∷ oneofs_from fields declared (o + 1) ds

-- MESSAGES AND ENUMS

-- A message with its fields and extensions.
unfoldable pub linked_message : List FieldRow → FlatMessageRow → MessageRow
linked_message all m =
    let fields = in_order all in
    record {
      id = linked_identity m.definition.proto.name m.definition;
      is_map_entry = unwrap_or (bool_option 7 m.definition.proto.options) false;
      fields = fields;
      oneofs = oneofs_from fields m.fields 0 m.oneofs;
    }

-- The first message is at the place.
abbrev pub messages_from : Links → (extensions : List (DefinitionRow FieldDescriptorProto)) → ℕ → List FlatMessageRow → List MessageRow
messages_from links extensions T [] = []
messages_from links extensions T (m ∷ ms) = linked_message (fields_of_message links extensions T m) m
    ∷ messages_from links extensions (T + 1) ms

-- An enum is closed in proto2.
abbrev pub linked_enum : FlatEnumRow → EnumRow
linked_enum e = record { id = linked_identity e.definition.proto.name e.definition; values = map linked_value e.values; is_closed = not e.definition.is_proto3 }

abbrev pub linked_rows : FlatRows → TableRows
linked_rows rows = record { messages = messages_from (links_of rows) rows.extensions 0 rows.messages; enums = map linked_enum rows.enums }
