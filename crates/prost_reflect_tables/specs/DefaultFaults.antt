-- BadDefault and FloatDefault: a written default stands at a singular scalar of a proto2 file, and its text gives a value (the proto2 guide, "Default Field Values").
use Rattle.std.specs.Prelude.{ℤ, Bool, not, ◌&&◌, ◌||◌, Option, is_some, is_none}
use Rattle.prost_reflect_types.specs.declared.FieldDescriptorProto.{FieldDescriptorProto}
use Rattle.prost_reflect_tables.specs.Flat.{DefinitionRow, FlatRows}
use Rattle.prost_reflect_tables.specs.Linking.{Links, links_of, linked_kind, linked_default}
use Rattle.prost_reflect_tables.specs.Faults.{any_field, is_code, is_message_type, has_repeated_label}

-- Neither lists nor messages have one, nor has a field of proto3.
abbrev pub default_misplaced : DefinitionRow FieldDescriptorProto → Bool
default_misplaced d = is_some d.proto.default_value && (has_repeated_label d || is_message_type d.proto.type_ || d.is_proto3)

-- The text gives no value of the field's kind.
abbrev pub default_unread : Links → DefinitionRow FieldDescriptorProto → Bool
default_unread links d = is_some d.proto.default_value && is_none (linked_default links (linked_kind links d.proto) d.proto.default_value)

-- A double (1) or a float (2).
abbrev pub is_float_type : Option ℤ → Bool
is_float_type code = is_code 1 code || is_code 2 code

unfoldable pub default_bad : Links → DefinitionRow FieldDescriptorProto → Bool
default_bad links d = default_misplaced d || (not (is_float_type d.proto.type_) && default_unread links d)

abbrev pub bad_default : FlatRows → Bool
bad_default rows = any_field (default_bad (links_of rows)) rows

unfoldable pub float_default_bad : Links → DefinitionRow FieldDescriptorProto → Bool
float_default_bad links d = is_float_type d.proto.type_ && default_unread links d

abbrev pub float_default : FlatRows → Bool
float_default rows = any_field (float_default_bad (links_of rows)) rows
