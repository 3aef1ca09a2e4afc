-- The names that most proofs cite, handed on from one place. Declares nothing.
pub use Rattle.std.specs.List.{list_all}
pub use Rattle.std.proofs.Common.{ℕ, Bool, true, false, not, cond, List, [], length, nat_eq, refl, sym, ap, ◌∙◌, append_assoc, append-nil, arith, ⊎_elim, zero, suc, get_or, map, Some, None, option_map, subst, Option, nat_le, option_and_then, length-append, drop, drop-cons, add-one, max, rules}
pub use Rattle.std.proofs.lemmas.Bool.{cases_lt, eq-eqb, ne_eqb, leb-true}
pub use Rattle.std.proofs.lemmas.List.{length-map, map-append, drop_all, get_or-map}
pub use Rattle.prost_reflect_types.specs.declared.DescriptorProto.{DescriptorProto}
pub use Rattle.prost_reflect_types.specs.declared.DescriptorProto.TheFolds.{fold_out-DescriptorProto}
pub use Rattle.prost_reflect_types.specs.declared.DescriptorProto.TheViews.{out-DescriptorProto}
pub use Rattle.prost_reflect_types.specs.declared.EnumDescriptorProto.{EnumDescriptorProto}
pub use Rattle.prost_reflect_types.specs.declared.FieldDescriptorProto.{FieldDescriptorProto}
pub use Rattle.prost_reflect_types.specs.declared.FileDescriptorProto.{FileDescriptorProto}
pub use Rattle.prost_reflect_types.specs.declared.OneofDescriptorProto.{OneofDescriptorProto}
pub use Rattle.prost_reflect_types.specs.declared.ServiceDescriptorProto.{ServiceDescriptorProto}
pub use Rattle.prost_reflect_wire.specs.Record.{Var, Fix64, Len, Fix32, Payload, Flat, Group, Record, record_at, Records, NoRecords, PlainRecord, GroupRecord, Spells, before, items, payload_wire, raw_levels, payload_levels}
unfoldable pub use Rattle.prost_reflect_wire.specs.Record.{read}
pub use Rattle.prost_reflect_wire.specs.Varint.{AreBytes}
pub use Rattle.prost_reflect_tables.specs.EntryFaults.{is_entry}
pub use Rattle.prost_reflect_tables.specs.Faults.{file_names, names_of}
pub use Rattle.prost_reflect_tables.specs.Flat.{FlatRows, DefinitionRow, FlatMessageRow, ScopeRow, Given, Placed, defined_from, field_name, enums_from, services_from, all_from, inside, own_message, message_step, file_scope, file_at, files_from, nothing, both, with_given, behind, oneof_name, value_name, method_name}
unfoldable pub use Rattle.prost_reflect_tables.specs.Flat.{message_at}
pub use Rattle.prost_reflect_flat.specs.FlatViews.{message_row, definition_row, enum_row, text_list, flat_rows, scope_row, service_row, file_list}
pub use Rattle.prost_reflect_tables.specs.Linking.{belonging, oneof_place, oneofs_from, linked_oneof}
pub use Rattle.prost_reflect_tables.specs.Options.{bool_of, bool_among, bool_in}
pub use Rattle.prost_reflect_tables.specs.Rows.{FieldRow, OneofRow, oneof_row}
pub use Rattle.prost_reflect_tables.specs.WrittenDefaults.{Front, front, is_octal, octal, letter, escaped, front_byte, unescaped, up_to, whole_number, bits_at, whole_bits, is_digit, digits_from}
unfoldable pub use Rattle.prost_reflect_tables.specs.WrittenDefaults.{octal_digit, unescaped_in, greatest_exponent}
pub use Rattle.prost_reflect_flat.specs.declared.definitions.FlatMessage.{FlatMessage}
