-- The names that most proofs cite, handed on from one place. Declares nothing.
pub use Rattle.std.specs.Cmp.{unsigned_ties, nat_cmp_is, IsStrictWeakOrder}
pub use Rattle.std.specs.Cmp.Lexicographic.{pointwise, texts_ties}
pub use Rattle.std.specs.List.{list_any, position_from, All, list_all, AllZip, position_or_len, AllByRecursion, slice_set}
pub use Rattle.std.specs.List.Sorted.{IsPartitionPoint, IsSortedBy, IsStableBy, ties, IsNonDecreasingBy, IsStableByKey, IsPermutation}
pub use Rattle.std.specs.Ordering.{int_eq, int_cmp, is_eq, nat_cmp, ordering_then, is_lt}
unfoldable pub use Rattle.std.specs.Str.{is_utf8, chars}
pub use Rattle.std.specs.declared.alloc.Global.{Global}
pub use Rattle.std.proofs.Common.{◌≡◌, ℕ, Bool, true, false, not, cond, ◌&&◌, ◌||◌, List, [], ◌∷◌, ◌++◌, length, nat_eq, filter, String, refl, sym, ap, ◌∙◌, true≢false, append_assoc, append-nil, arith, ◌==◌, bytes_eq, ⊎_elim, ◌≢◌, zero, suc, add-zero, ◌+◌, ◌<◌, ◌≤◌, ◌^◌, get_or, map, Some, None, slice_get, option_map, nat_lt, subst, ℤ, pos, negsuc, Option, is_none, unwrap_or, nat_le, string_bytes, take, find, ◌↔◌, IsTrue, ap₂, ◌-◌, ◌*◌, option_and_then, length-append, drop, drop-cons, add-one, ◌⊎◌, inl, inr, Vec, IsSome, IsSomeAnd, is_some, neg_ℤ, ◌/◌, codes, zero-add, int_le, int_lt, eqb}
pub use Rattle.std.proofs.lemmas.Bool.{cases_lt, ltb-true, eq-eqb, ne_eqb, and_parts, or_parts, leb-false, and_from, lt-ltb, le-ltb, eqb-true, ltb-false, eqb-false, or_left, or_cases, not-true, not-false, leb-true, or_from, or_right}
pub use Rattle.std.proofs.lemmas.Bool.Decides.{Decides-at, Decides-int_eq}
pub use Rattle.std.proofs.lemmas.List.{length-map, take_more, map-append, drop_all, length-take, get_or_default}
pub use Rattle.std.proofs.lemmas.List.Elements.{All-nil, All-cons, All-head, All-tail, All-append, All-map, All-filter, length_all_zip}
pub use Rattle.std.proofs.lemmas.List.Folds.{list_all-map, find_at, list_all-append, list_any_at}
pub use Rattle.std.proofs.lemmas.Option.{slice_get-map, slice_get-get_or, slice_get_within, unwrap_or-slice_get, get_or_from_slice_get, same_Some, slice_get_read, slice_get_past}
pub use Rattle.prost_reflect_types.specs.DescriptorViews.{of_file, of_message, of_records, of_enum}
unfoldable pub use Rattle.prost_reflect_types.specs.DescriptorViews.{of_text, of_bytes}
pub use Rattle.prost_reflect_types.specs.declared.DescriptorProto.{DescriptorProto}
pub use Rattle.prost_reflect_types.specs.declared.DescriptorProto.TheFolds.{fold-roll-DescriptorProto, ind-DescriptorProto, map-DescriptorProto, fold_out-DescriptorProto}
pub use Rattle.prost_reflect_types.specs.declared.DescriptorProto.TheViews.{out-DescriptorProto}
pub use Rattle.prost_reflect_types.specs.declared.EnumDescriptorProto.{EnumDescriptorProto}
pub use Rattle.prost_reflect_types.specs.declared.EnumValueDescriptorProto.{EnumValueDescriptorProto}
pub use Rattle.prost_reflect_types.specs.declared.FieldDescriptorProto.{FieldDescriptorProto}
pub use Rattle.prost_reflect_types.specs.declared.FileDescriptorProto.{FileDescriptorProto}
pub use Rattle.prost_reflect_types.specs.declared.MethodDescriptorProto.{MethodDescriptorProto}
pub use Rattle.prost_reflect_types.specs.declared.OneofDescriptorProto.{OneofDescriptorProto}
pub use Rattle.prost_reflect_types.specs.declared.ServiceDescriptorProto.{ServiceDescriptorProto}
pub use Rattle.prost_reflect_wire.specs.Record.{number_valid}
unfoldable pub use Rattle.prost_reflect_wire.specs.Record.{read}
pub use Rattle.prost_reflect_wire.specs.Scalar.{scalar_eq, Scalar, kind_default, Boolean, I32, I64, U32, U64, F32, F64, Text, Bytes, EnumNumber, ScalarKind, Open, Closed, in_i32, scalar_valid, in_i64}
pub use Rattle.prost_reflect_wire.specs.Schema.{Field, known, field_of, schema_valid, ScalarOf, Schema, kind_valid, default_valid, is_key_kind, is_group, Kind, MessageOf, GroupOf, message_type, is_packable_kind, is_bare, has_kind_default, message_has_presence, MessageType, field_valid, numbers_differ, MapFrom, form_valid, oneof_valid}
pub use Rattle.prost_reflect_wire.specs.Varint.{are_bytes}
pub use Rattle.prost_reflect_types.proofs.EqualContents.{SameFile, file_same, zip_same, SameText, SameTexts, SameExtensionRange, SameReservedRange, SameField, SameOneof, SameEnumReservedRange, SameEnumValue, SameMethod, SameEnum, SameService, SameLayer, message_same, SameBytes}
pub use Rattle.prost_reflect_tables.specs.Built.{AreTablesOf}
pub use Rattle.prost_reflect_tables.specs.CatalogRows.{FileRow, ExtensionRow, MethodRow, ServiceRow, CatalogRows, catalog_row, MessageListsRow, EnumListsRow, SortedRow}
pub use Rattle.prost_reflect_tables.specs.Checked.{Checked, has_fault}
pub use Rattle.prost_reflect_tables.specs.DefaultFaults.{default_misplaced, default_unread, bad_default, float_default}
unfoldable pub use Rattle.prost_reflect_tables.specs.DefaultFaults.{default_bad, float_default_bad}
pub use Rattle.prost_reflect_tables.specs.EntryFaults.{is_entry, is_key_type, is_plain, is_entry_key, is_entry_value, is_key_and_value, entry_bad, is_of_entry, wrongly_of_entry, names_entry, is_entry_message, bad_map_entry, method_of_entry}
pub use Rattle.prost_reflect_tables.specs.Faults.{is_unnamed, any_field, name_place, place_named, file_names, message_names, names_nothing, extendee_missing, extendee_unknown, type_missing, type_unknown, method_type_missing, method_type_unknown, dependency_missing, import_outside, has_oneof_outside, is_outside, enum_names, names_of, oneof_outside, all_numbered, number_or_zero, is_code, is_member, message_named, is_in_range, is_out_of, extension_outside, is_field_number, number_bad, is_message_type, repeated_member, is_type, is_enum_type, Numbered, numbered_fields, numbered_in, numbered_at, numbered_extensions, same_numbered, number_repeats, enum_empty, duplicate_number, repeats, message_unnamed, enum_unnamed, service_unnamed, missing_name, syntax_unknown, unknown_syntax, bad_index, bad_number, range_bad, message_range_bad, enum_range_bad, bad_range, missing_type, label_bad, bad_label, bad_oneof, empty_enum, names_in_messages, names_in_enums, names_in_services, duplicate_name, missing_dependency, unknown_type, outside_range}
pub use Rattle.prost_reflect_tables.specs.Flat.{FlatRows, flattened, DefinitionRow, FlatMessageRow, FlatServiceRow, FlatEnumRow, ScopeRow, Given, Placed, defined, defined_from, field_name, enum_at, enums_from, service_at, services_from, all_from, inside, own_message, message_step, file_scope, file_at, files_from, behind, oneof_name, value_name, method_name, message_parts, MessageParts}
unfoldable pub use Rattle.prost_reflect_tables.specs.Flat.{message_at}
pub use Rattle.prost_reflect_tables.specs.Gathered.{places_from, places_where, all_places, places_of, gathered, pairs_at, pairs_from, all_pairs, list_at}
pub use Rattle.prost_reflect_tables.specs.Indexing.{empty_lists, with_item, grouped, list_rows}
pub use Rattle.prost_reflect_tables.specs.Linked.{ascending_from, is_linked, message_linked, field_linked, has_entry_numbers, kind_in_range, oneof_in_range, enum_linked, oneof_linked}
pub use Rattle.prost_reflect_tables.specs.LinkedCatalog.{each_from, file_place, import_at, dependency_places, linked_file, linked_extension, linked_method, linked_service, linked_catalog, field_names, json_names, own_fields, linked_lists, ordered, enum_lists, value_names, value_places, value_full_name, sorted_places, service_names}
unfoldable pub use Rattle.prost_reflect_tables.specs.LinkedCatalog.{IsCatalogOf}
pub use Rattle.prost_reflect_tables.specs.Linking.{linked_rows, Links, links_of, natural_or_zero, place_or_first, is_place, extended_place, belonging, declared_fields, fields_of_message, put_in_order, in_order, messages_from, linked_value, value_number, linked_enum, oneof_place, member_place, oneofs_from, linked_oneof, place_in, linked_kind, linked_default, values_of_kind, is_group_code, kind_of_code, is_message, is_packable, is_repeated, cardinality_of_label, json_name_or, json_name, linked_identity}
unfoldable pub use Rattle.prost_reflect_tables.specs.Linking.{linked_field, linked_message}
pub use Rattle.prost_reflect_tables.specs.Names.{text_or_empty, without_dot, joined, bracketed}
pub use Rattle.prost_reflect_tables.specs.Options.{bool_in, bool_option}
pub use Rattle.prost_reflect_tables.specs.Places.{place_of, fields_at, fields_or_none, is_declared_at, row_of}
pub use Rattle.prost_reflect_tables.specs.Resolved.{ResolvedRow}
unfoldable pub use Rattle.prost_reflect_tables.specs.Resolved.{resolve}
pub use Rattle.prost_reflect_tables.specs.Rows.{FieldRow, field_row, TableRows, rows_from, IdentityRow, MessageRow, EnumRow, OneofRow, EnumValueRow, written_scalar, identity_row, oneof_row, enum_value_row}
pub use Rattle.prost_reflect_tables.specs.Schema.{rows_of}
pub use Rattle.prost_reflect_tables.specs.Shown.{schema_message, schema_field, schema_default, schema_kind, first_number, enum_kind, is_required, own_type, entry_or_none, entry_at, map_entry, type_or, value_type_of, form_of}
unfoldable pub use Rattle.prost_reflect_tables.specs.Shown.{schema_from}
pub use Rattle.prost_reflect_tables.specs.WrittenDefaults.{number_named, Front, front, is_octal, octal, letter, escaped, front_byte, unescaped, plain_kind, signed, up_to, whole_number, float_bits, binary32, binary64, boolean, field_default, is_negative, bits_at, whole_bits, magnitude_bits, FloatFormat}
unfoldable pub use Rattle.prost_reflect_tables.specs.WrittenDefaults.{octal_digit, unescaped_in, written_default, greatest_exponent}
pub use Rattle.prost_reflect_tables.specs.declared.catalog.Catalog.{Catalog}
pub use Rattle.prost_reflect_tables.specs.declared.error.PoolError.{PoolError}
pub use Rattle.prost_reflect_tables.specs.declared.tables.Cardinality.{Cardinality}
pub use Rattle.prost_reflect_tables.specs.declared.tables.Cardinality.TheVariants.{Optional, Required, Repeated}
pub use Rattle.prost_reflect_tables.specs.declared.tables.EnumTable.{EnumTable}
pub use Rattle.prost_reflect_tables.specs.declared.tables.FieldTable.{FieldTable}
pub use Rattle.prost_reflect_tables.specs.declared.tables.MessageTable.{MessageTable}
pub use Rattle.prost_reflect_tables.specs.declared.tables.TableKind.{TableKind}
