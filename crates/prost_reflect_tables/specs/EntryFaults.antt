-- BadMapEntry: what `map_entry` marks is a message of a key and a value, and only map fields name it (descriptor.proto, `MessageOptions.map_entry`; the language guide, "Maps").
use Rattle.std.specs.Prelude.{nat_eq, ℤ, Bool, false, not, ◌&&◌, ◌||◌, length, List, [], ◌∷◌, Option, Some, None, is_none, unwrap_or, String}
use Rattle.std.specs.List.{list_any}
use Rattle.std.specs.declared.alloc.Global.{Global}
use Rattle.prost_reflect_types.specs.declared.FieldDescriptorProto.{FieldDescriptorProto}
use Rattle.prost_reflect_types.specs.declared.MethodDescriptorProto.{MethodDescriptorProto}
use Rattle.prost_reflect_tables.specs.Flat.{DefinitionRow, FlatMessageRow, FlatRows}
use Rattle.prost_reflect_tables.specs.Options.{bool_option}
use Rattle.prost_reflect_tables.specs.Faults.{number_or_zero, is_type, is_code, is_message_type, is_enum_type, has_repeated_label, is_member, message_named}

abbrev pub is_entry : FlatMessageRow → Bool
is_entry m = unwrap_or (bool_option 7 m.definition.proto.options) false

-- KEYS AND VALUES

-- Keys are numbers (floats aside), bools or texts: of the types, neither double (1), float (2), group (10), message (11), bytes (12) nor enum (14).
abbrev pub is_key_type : Option ℤ → Bool
is_key_type code = is_type (number_or_zero code)
    && not (is_code 1 code || is_code 2 code || is_message_type code || is_code 12 code || is_enum_type code)

-- One value, without a written default, in no oneof.
abbrev pub is_plain : DefinitionRow FieldDescriptorProto → Bool
is_plain d = not (has_repeated_label d) && is_none d.proto.default_value && not (is_member d)

abbrev pub is_entry_key : DefinitionRow FieldDescriptorProto → Bool
is_entry_key d = is_code 1 d.proto.number && is_plain d && is_key_type d.proto.type_

-- Any kind but a group (10).
abbrev pub is_entry_value : DefinitionRow FieldDescriptorProto → Bool
is_entry_value d = is_code 2 d.proto.number && is_plain d && not (is_code 10 d.proto.type_)

-- A key and a value, in either order, and no other field.
abbrev pub is_key_and_value : List (DefinitionRow FieldDescriptorProto) → Bool
is_key_and_value (a ∷ b ∷ []) = (is_entry_key a && is_entry_value b) || (is_entry_value a && is_entry_key b)
is_key_and_value fields = false

-- An entry has no extensions.
abbrev pub entry_bad : FlatMessageRow → Bool
entry_bad m = is_entry m && not (is_key_and_value m.fields && nat_eq (length m.definition.proto.extension_range) 0)

-- WHAT NAMES AN ENTRY

abbrev pub is_entry_message : Option FlatMessageRow → Bool
is_entry_message None = false
is_entry_message (Some m) = is_entry m

abbrev pub names_entry : FlatRows → Option (String Global) → Bool
names_entry rows text = is_entry_message (message_named rows text)

-- A message or a group that is an entry.
abbrev pub is_of_entry : FlatRows → DefinitionRow FieldDescriptorProto → Bool
is_of_entry rows d = is_message_type d.proto.type_ && names_entry rows d.proto.type_name

-- A map field is a repeated message (11).
abbrev pub wrongly_of_entry : FlatRows → DefinitionRow FieldDescriptorProto → Bool
wrongly_of_entry rows d = is_of_entry rows d && not (has_repeated_label d && is_code 11 d.proto.type_)

abbrev pub method_of_entry : FlatRows → DefinitionRow MethodDescriptorProto → Bool
method_of_entry rows d = names_entry rows d.proto.input_type || names_entry rows d.proto.output_type

abbrev pub bad_map_entry : FlatRows → Bool
bad_map_entry rows =
    list_any entry_bad rows.messages
    || list_any (λ m. list_any (wrongly_of_entry rows) m.fields) rows.messages
    || list_any (is_of_entry rows) rows.extensions
    || list_any (λ s. list_any (method_of_entry rows) s.methods) rows.services
