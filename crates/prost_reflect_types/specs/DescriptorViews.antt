-- What each struct of a descriptor record is as a content of its type: its fields in ascending number, each a row of the table.
use Rattle.std.specs.Prelude.{ℕ, ℤ, Bool, List, [], ◌∷◌, map, Option, option_map, String, string_bytes, Vec}
use Rattle.std.specs.declared.alloc.Global.{Global}
use Rattle.std.specs.declared.rc.Rc.{Rc}
use Rattle.prost_reflect_wire.specs.Scalar.{Boolean, I32, Text, Bytes}
use Rattle.prost_reflect_wire.specs.Content.{Content, ContentOf, Entries, NoEntries, Value, ScalarValue, MessageValue, ListValue, NoValues, Item, values_from, then_value}
use Rattle.prost_reflect_wire.specs.Meaning.{present_list}
use Rattle.prost_reflect_types.specs.DescriptorTable.{type_place, record_schema}
use Rattle.prost_reflect_types.specs.declared.table.RecordType.{RecordType}
use Rattle.prost_reflect_types.specs.declared.table.RecordType.TheVariants as types
use Rattle.prost_reflect_types.specs.declared.FileDescriptorSet.{FileDescriptorSet}
use Rattle.prost_reflect_types.specs.declared.FileDescriptorProto.{FileDescriptorProto}
use Rattle.prost_reflect_types.specs.declared.DescriptorProto.{DescriptorProto}
use Rattle.prost_reflect_types.specs.declared.DescriptorProto.TheOpen.{DescriptorProto-F}
use Rattle.prost_reflect_types.specs.declared.DescriptorProto.TheFolds.{fold-DescriptorProto}
use Rattle.prost_reflect_types.specs.declared.ExtensionRange.{ExtensionRange}
use Rattle.prost_reflect_types.specs.declared.ReservedRange.{ReservedRange}
use Rattle.prost_reflect_types.specs.declared.FieldDescriptorProto.{FieldDescriptorProto}
use Rattle.prost_reflect_types.specs.declared.OneofDescriptorProto.{OneofDescriptorProto}
use Rattle.prost_reflect_types.specs.declared.EnumDescriptorProto.{EnumDescriptorProto}
use Rattle.prost_reflect_types.specs.declared.EnumReservedRange.{EnumReservedRange}
use Rattle.prost_reflect_types.specs.declared.EnumValueDescriptorProto.{EnumValueDescriptorProto}
use Rattle.prost_reflect_types.specs.declared.ServiceDescriptorProto.{ServiceDescriptorProto}
use Rattle.prost_reflect_types.specs.declared.MethodDescriptorProto.{MethodDescriptorProto}

-- WHAT A FIELD IS, BY ITS KIND

unfoldable pub of_text : Option (String Global) → Option Value
of_text text = option_map (λ t. ScalarValue (Text (string_bytes t))) text

unfoldable pub of_number : Option ℤ → Option Value
of_number number = option_map (λ z. ScalarValue (I32 z)) number

unfoldable pub of_flag : Option Bool → Option Value
of_flag flag = option_map (λ b. ScalarValue (Boolean b)) flag

-- Raw bytes are one piece.
unfoldable pub of_bytes : Option (Vec ℕ Global) → Option Value
of_bytes bytes = option_map (λ b. ListValue (Item (ScalarValue (Bytes b.items)) NoValues)) bytes

unfoldable pub of_texts : Vec (String Global) Global → Option Value
of_texts texts = present_list (values_from (map (λ t. ScalarValue (Text (string_bytes t))) texts.items))

unfoldable pub of_numbers : Vec ℤ Global → Option Value
of_numbers numbers = present_list (values_from (map (λ z. ScalarValue (I32 z)) numbers.items))

unfoldable pub of_records : List Content → Option Value
of_records contents = present_list (values_from (map MessageValue contents))

-- WHAT A RECORD IS

-- The values that are there, under their numbers.
abbrev pub entries_from : List (ℕ × Option Value) → Entries
entries_from [] = NoEntries
entries_from (slot ∷ slots) = then_value slot.0 slot.1 (entries_from slots)

abbrev pub record_content : RecordType → List (ℕ × Option Value) → Content
record_content t slots = ContentOf record_schema (type_place t) (entries_from slots)

abbrev pub of_extension_range : ExtensionRange → Content
of_extension_range r = record_content types.ExtensionRange ((1, of_number r.start) ∷ (2, of_number r.end) ∷ (3, of_bytes r.options) ∷ [])

abbrev pub of_reserved_range : ReservedRange → Content
of_reserved_range r = record_content types.ReservedRange ((1, of_number r.start) ∷ (2, of_number r.end) ∷ [])

abbrev pub of_field : FieldDescriptorProto → Content
of_field f = record_content types.Field
    ((1, of_text f.name) ∷ (2, of_text f.extendee) ∷ (3, of_number f.number) ∷ (4, of_number f.label) ∷ (5, of_number f.type_)
    ∷ (6, of_text f.type_name) ∷ (7, of_text f.default_value) ∷ (8, of_bytes f.options) ∷ (9, of_number f.oneof_index)
    ∷ (10, of_text f.json_name) ∷ (17, of_flag f.proto3_optional) ∷ [])

abbrev pub of_oneof : OneofDescriptorProto → Content
of_oneof o = record_content types.Oneof ((1, of_text o.name) ∷ (2, of_bytes o.options) ∷ [])

abbrev pub of_enum_value : EnumValueDescriptorProto → Content
of_enum_value v = record_content types.EnumValue ((1, of_text v.name) ∷ (2, of_number v.number) ∷ (3, of_bytes v.options) ∷ [])

abbrev pub of_enum_reserved_range : EnumReservedRange → Content
of_enum_reserved_range r = record_content types.EnumReservedRange ((1, of_number r.start) ∷ (2, of_number r.end) ∷ [])

abbrev pub of_enum : EnumDescriptorProto → Content
of_enum e = record_content types.Enum
    ((1, of_text e.name) ∷ (2, of_records (map of_enum_value e.value.items)) ∷ (3, of_bytes e.options)
    ∷ (4, of_records (map of_enum_reserved_range e.reserved_range.items)) ∷ (5, of_texts e.reserved_name) ∷ [])

abbrev pub of_method : MethodDescriptorProto → Content
of_method m = record_content types.Method
    ((1, of_text m.name) ∷ (2, of_text m.input_type) ∷ (3, of_text m.output_type) ∷ (4, of_bytes m.options)
    ∷ (5, of_flag m.client_streaming) ∷ (6, of_flag m.server_streaming) ∷ [])

abbrev pub of_service : ServiceDescriptorProto → Content
of_service s = record_content types.Service ((1, of_text s.name) ∷ (2, of_records (map of_method s.method.items)) ∷ (3, of_bytes s.options) ∷ [])

-- A message, over what the messages inside are.
abbrev pub message_step : DescriptorProto-F Content → Content
message_step m = record_content types.Message
    ((1, of_text m.name) ∷ (2, of_records (map of_field m.field.items)) ∷ (3, of_records m.nested_type.items)
    ∷ (4, of_records (map of_enum m.enum_type.items)) ∷ (5, of_records (map of_extension_range m.extension_range.items))
    ∷ (6, of_records (map of_field m.extension.items)) ∷ (7, of_bytes m.options) ∷ (8, of_records (map of_oneof m.oneof_decl.items))
    ∷ (9, of_records (map of_reserved_range m.reserved_range.items)) ∷ (10, of_texts m.reserved_name) ∷ [])

abbrev pub of_message : DescriptorProto → Content
of_message = fold-DescriptorProto Content message_step

abbrev pub of_file : FileDescriptorProto → Content
of_file f = record_content types.File
    ((1, of_text f.name) ∷ (2, of_text f.package) ∷ (3, of_texts f.dependency) ∷ (4, of_records (map of_message f.message_type.items))
    ∷ (5, of_records (map of_enum f.enum_type.items)) ∷ (6, of_records (map of_service f.service.items))
    ∷ (7, of_records (map of_field f.extension.items)) ∷ (8, of_bytes f.options) ∷ (9, of_bytes f.source_code_info)
    ∷ (10, of_numbers f.public_dependency) ∷ (11, of_numbers f.weak_dependency) ∷ (12, of_text f.syntax) ∷ [])

abbrev pub of_files : List FileDescriptorProto → Content
of_files files = record_content types.FileSet ((1, of_records (map of_file files)) ∷ [])

abbrev pub of_file_set : FileDescriptorSet → Content
of_file_set s = of_files s.file.items

-- Files that are shared.
abbrev pub shared_files : List (Rc FileDescriptorProto Global) → List FileDescriptorProto
shared_files files = map (λ f. f.value) files
