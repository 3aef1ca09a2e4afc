-- What a message's record is, field by field.
use Rattle.std.specs.Prelude.{◌≡◌, ◌∷◌}
use Rattle.prost_reflect_types.proofs.Common.{[], map, Content, DescriptorProto, roll-DescriptorProto, record_content, of_text, of_bytes, of_texts, of_records, of_field, of_enum, of_extension_range, of_oneof, of_reserved_range, of_message, message_step}
use Rattle.prost_reflect_types.specs.declared.DescriptorProto.TheOpen.{DescriptorProto-F}
use Rattle.prost_reflect_types.specs.declared.DescriptorProto.TheFolds.{fold-roll-DescriptorProto}
use Rattle.prost_reflect_types.specs.declared.table.RecordType.TheVariants as types

pub of_message_roll : (m : DescriptorProto-F DescriptorProto) → of_message (roll-DescriptorProto m)
    ≡ record_content types.Message
    ((1, of_text m.name) ∷ (2, of_records (map of_field m.field.items)) ∷ (3, of_records (map of_message m.nested_type.items))
    ∷ (4, of_records (map of_enum m.enum_type.items)) ∷ (5, of_records (map of_extension_range m.extension_range.items))
    ∷ (6, of_records (map of_field m.extension.items)) ∷ (7, of_bytes m.options) ∷ (8, of_records (map of_oneof m.oneof_decl.items))
    ∷ (9, of_records (map of_reserved_range m.reserved_range.items)) ∷ (10, of_texts m.reserved_name) ∷ [])
of_message_roll = fold-roll-DescriptorProto Content message_step
