-- The fields of each descriptor record with what they hold.
use Rattle.std.specs.Prelude.{◌≡◌, ◌∷◌}
use Rattle.prost_reflect_types.proofs.Common.{ℕ, List, [], map, Option, Content, Value, record_content, of_text, of_number, of_flag, of_bytes, of_texts, of_numbers, of_records, of_extension_range, of_reserved_range, of_field, of_oneof, of_enum_value, of_enum_reserved_range, of_enum, of_method, of_service, message_step, of_message, of_file, DescriptorProto, out-DescriptorProto}
use Rattle.prost_reflect_types.specs.declared.table.RecordType.TheVariants as types
use Rattle.prost_reflect_types.specs.declared.ExtensionRange.{ExtensionRange}
use Rattle.prost_reflect_types.specs.declared.ReservedRange.{ReservedRange}
use Rattle.prost_reflect_types.specs.declared.FieldDescriptorProto.{FieldDescriptorProto}
use Rattle.prost_reflect_types.specs.declared.OneofDescriptorProto.{OneofDescriptorProto}
use Rattle.prost_reflect_types.specs.declared.EnumReservedRange.{EnumReservedRange}
use Rattle.prost_reflect_types.specs.declared.EnumValueDescriptorProto.{EnumValueDescriptorProto}
use Rattle.prost_reflect_types.specs.declared.EnumDescriptorProto.{EnumDescriptorProto}
use Rattle.prost_reflect_types.specs.declared.MethodDescriptorProto.{MethodDescriptorProto}
use Rattle.prost_reflect_types.specs.declared.ServiceDescriptorProto.{ServiceDescriptorProto}
use Rattle.prost_reflect_types.specs.declared.FileDescriptorProto.{FileDescriptorProto}
use Rattle.prost_reflect_types.specs.declared.FileDescriptorSet.{FileDescriptorSet}
use Rattle.prost_reflect_types.specs.declared.DescriptorProto.TheFolds.{fold_out-DescriptorProto}

abbrev pub Slots : Type 0
Slots = List (ℕ × Option Value)

abbrev pub extension_range_slots : ExtensionRange → Slots
extension_range_slots r = (1, of_number r.start) ∷ (2, of_number r.end) ∷ (3, of_bytes r.options) ∷ []

abbrev pub reserved_range_slots : ReservedRange → Slots
reserved_range_slots r = (1, of_number r.start) ∷ (2, of_number r.end) ∷ []

abbrev pub field_slots : FieldDescriptorProto → Slots
field_slots r = (1, of_text r.name) ∷ (2, of_text r.extendee) ∷ (3, of_number r.number) ∷ (4, of_number r.label) ∷ (5, of_number r.type_) ∷ (6, of_text r.type_name) ∷ (7, of_text r.default_value) ∷ (8, of_bytes r.options) ∷ (9, of_number r.oneof_index) ∷ (10, of_text r.json_name) ∷ (17, of_flag r.proto3_optional) ∷ []

abbrev pub oneof_slots : OneofDescriptorProto → Slots
oneof_slots r = (1, of_text r.name) ∷ (2, of_bytes r.options) ∷ []

abbrev pub enum_reserved_range_slots : EnumReservedRange → Slots
enum_reserved_range_slots r = (1, of_number r.start) ∷ (2, of_number r.end) ∷ []

abbrev pub enum_value_slots : EnumValueDescriptorProto → Slots
enum_value_slots r = (1, of_text r.name) ∷ (2, of_number r.number) ∷ (3, of_bytes r.options) ∷ []

abbrev pub enum_slots : EnumDescriptorProto → Slots
enum_slots r = (1, of_text r.name) ∷ (2, of_records (map of_enum_value r.value.items)) ∷ (3, of_bytes r.options) ∷ (4, of_records (map of_enum_reserved_range r.reserved_range.items)) ∷ (5, of_texts r.reserved_name) ∷ []

abbrev pub method_slots : MethodDescriptorProto → Slots
method_slots r = (1, of_text r.name) ∷ (2, of_text r.input_type) ∷ (3, of_text r.output_type) ∷ (4, of_bytes r.options) ∷ (5, of_flag r.client_streaming) ∷ (6, of_flag r.server_streaming) ∷ []

abbrev pub service_slots : ServiceDescriptorProto → Slots
service_slots r = (1, of_text r.name) ∷ (2, of_records (map of_method r.method.items)) ∷ (3, of_bytes r.options) ∷ []

abbrev pub message_slots : DescriptorProto → Slots
message_slots r = (1, of_text (out-DescriptorProto r).name) ∷ (2, of_records (map of_field (out-DescriptorProto r).field.items)) ∷ (3, of_records (map of_message (out-DescriptorProto r).nested_type.items)) ∷ (4, of_records (map of_enum (out-DescriptorProto r).enum_type.items)) ∷ (5, of_records (map of_extension_range (out-DescriptorProto r).extension_range.items)) ∷ (6, of_records (map of_field (out-DescriptorProto r).extension.items)) ∷ (7, of_bytes (out-DescriptorProto r).options) ∷ (8, of_records (map of_oneof (out-DescriptorProto r).oneof_decl.items)) ∷ (9, of_records (map of_reserved_range (out-DescriptorProto r).reserved_range.items)) ∷ (10, of_texts (out-DescriptorProto r).reserved_name) ∷ []

abbrev pub file_slots : FileDescriptorProto → Slots
file_slots r = (1, of_text r.name) ∷ (2, of_text r.«package») ∷ (3, of_texts r.dependency) ∷ (4, of_records (map of_message r.message_type.items)) ∷ (5, of_records (map of_enum r.enum_type.items)) ∷ (6, of_records (map of_service r.service.items)) ∷ (7, of_records (map of_field r.extension.items)) ∷ (8, of_bytes r.options) ∷ (9, of_bytes r.source_code_info) ∷ (10, of_numbers r.public_dependency) ∷ (11, of_numbers r.weak_dependency) ∷ (12, of_text r.syntax) ∷ []

abbrev pub file_set_slots : FileDescriptorSet → Slots
file_set_slots r = (1, of_records (map of_file r.file.items)) ∷ []

-- a message by its fields
pub message_out : (m : DescriptorProto) → of_message m ≡ record_content types.Message (message_slots m)
message_out = fold_out-DescriptorProto Content message_step
