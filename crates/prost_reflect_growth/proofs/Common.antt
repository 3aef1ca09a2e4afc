-- The names that most proofs cite, handed on from one place. Declares nothing.
pub use Rattle.std.specs.Cmp.{IsStrictWeakOrder}
pub use Rattle.std.specs.Cmp.Lexicographic.{slice_cmp}
pub use Rattle.std.specs.List.{list_any, All, position_from, AllByRecursion}
pub use Rattle.std.specs.List.Sorted.{IsPartitionedBy}
pub use Rattle.std.specs.Option.{IfSome}
pub use Rattle.std.specs.Ordering.{int_eq, nat_cmp, is_lt}
pub use Rattle.std.specs.declared.alloc.Global.{Global}
pub use Rattle.std.proofs.Common.{Bool, true, false, List, [], refl, sym, ap, ap₂, ◌∙◌, append_assoc, append-nil, subst, ℕ, cond, length, map, Option, Some, None, arith, zero-add, string_bytes, String, unwrap_or, is_none, ℤ, not, slice_get, nat_eq, add-zero, bytes_eq, is_some, option_and_then, length-append, zero, suc, filter, option_map, get_or, true≢false, nat_lt, nat_le, pos, negsuc, take, drop, rules, ltb}
pub use Rattle.std.proofs.Math.Bool.{or_assoc, or_comm, or-false, and-false, and-or_distrib_left}
pub use Rattle.std.proofs.lemmas.Bool.{or_parts, ltb-true, lt-ltb, ne_eqb, or_from, le-ltb, eq-eqb, eqb-true, eqb-false, not-true}
pub use Rattle.std.proofs.lemmas.Bool.Decides.{Decides-int_eq}
pub use Rattle.std.proofs.lemmas.Cmp.{nat_list_cmp_total}
pub use Rattle.std.proofs.lemmas.Iterator.Adapters.{position_from-zero}
pub use Rattle.std.proofs.lemmas.List.{map-append, length-map, get_or_append_left, get_or-append-add, get_or_read, drop_all}
pub use Rattle.std.proofs.lemmas.List.Elements.{All-head, All-tail, All-nil, All-append, All-map, filter-append, All-cons}
pub use Rattle.std.proofs.lemmas.List.Folds.{list_any-append}
pub use Rattle.std.proofs.lemmas.List.Sorted.{ranks_by}
pub use Rattle.std.proofs.lemmas.Option.{same_Some, slice_get-map, unwrap_or-slice_get, slice_get_within}
pub use Rattle.std.proofs.lemmas.Simd.{map-map}
pub use Rattle.std.proofs.lemmas.Slice.Eq.{bytes_eq-Decides}
pub use Rattle.prost_reflect_types.specs.declared.DescriptorProto.{DescriptorProto}
pub use Rattle.prost_reflect_types.specs.declared.DescriptorProto.TheOpen.{DescriptorProto-F}
pub use Rattle.prost_reflect_types.specs.declared.DescriptorProto.TheFolds.{fold-roll-DescriptorProto, ind-DescriptorProto, map-DescriptorProto}
pub use Rattle.prost_reflect_types.specs.declared.EnumDescriptorProto.{EnumDescriptorProto}
pub use Rattle.prost_reflect_types.specs.declared.FieldDescriptorProto.{FieldDescriptorProto}
pub use Rattle.prost_reflect_types.specs.declared.FileDescriptorProto.{FileDescriptorProto}
pub use Rattle.prost_reflect_types.specs.declared.MethodDescriptorProto.{MethodDescriptorProto}
pub use Rattle.prost_reflect_types.specs.declared.OneofDescriptorProto.{OneofDescriptorProto}
pub use Rattle.prost_reflect_types.specs.declared.ServiceDescriptorProto.{ServiceDescriptorProto}
pub use Rattle.prost_reflect_tables.specs.CatalogRows.{MethodRow, ServiceRow, ExtensionRow, CatalogRows}
pub use Rattle.prost_reflect_tables.specs.Checked.{Checked, has_fault}
pub use Rattle.prost_reflect_tables.specs.DefaultFaults.{default_misplaced, is_float_type}
unfoldable pub use Rattle.prost_reflect_tables.specs.DefaultFaults.{default_bad, float_default_bad}
pub use Rattle.prost_reflect_tables.specs.EntryFaults.{entry_bad, wrongly_of_entry, is_of_entry, method_of_entry, names_entry, is_entry_message}
pub use Rattle.prost_reflect_tables.specs.Faults.{repeats_by, any_field, dependency_missing, name_place, file_names, message_names, names_nothing, type_unknown, extendee_unknown, method_type_unknown, is_unnamed, message_unnamed, enum_unnamed, service_unnamed, syntax_unknown, import_outside, has_oneof_outside, number_bad, message_range_bad, enum_range_bad, type_missing, extendee_missing, method_type_missing, label_bad, repeated_member, is_member, enum_empty, enum_names, full_names, names_of, names_in_messages, names_in_enums, names_in_services, repeats, duplicate_name, place_named, message_named, is_message_type, is_enum_type, Numbered, numbered_fields, numbered_in, numbered_at, numbered_extensions, all_numbered, number_repeats, same_numbered, number_or_zero, is_out_of, extension_outside, is_type}
pub use Rattle.prost_reflect_tables.specs.Flat.{DefinitionRow, FlatMessageRow, FlatEnumRow, FlatServiceRow, FlatRows, inside, behind, flattened, file_at, files_from, ScopeRow, Given, Placed, defined, defined_from, field_name, enum_at, enums_from, service_at, services_from, all_from, own_message, message_step, file_scope}
unfoldable pub use Rattle.prost_reflect_tables.specs.Flat.{message_at}
pub use Rattle.prost_reflect_tables.specs.Gathered.{places_from, all_places, pairs_at, pairs_from, all_pairs}
pub use Rattle.prost_reflect_tables.specs.Linked.{is_linked, ascending_from}
pub use Rattle.prost_reflect_tables.specs.LinkedCatalog.{each_from, top_file, file_place, dependency_places, import_at, linked_file, linked_lists, enum_lists, linked_method, linked_service, extension_of, linked_extension, linked_catalog, ordered, value_places, value_full_name, value_full_names, service_names}
unfoldable pub use Rattle.prost_reflect_tables.specs.LinkedCatalog.{IsCatalogOf}
pub use Rattle.prost_reflect_tables.specs.Linking.{links_of, is_place, linked_identity, extended_place, linked_rows, natural_or_zero, place_or_first, in_order, put_in_order, Links, belonging, declared_fields, fields_of_message, linked_enum, oneof_place, member_place, linked_oneof, oneofs_from, messages_from, kind_of_code, linked_kind, values_of_kind, linked_default, linked_value, field_with}
unfoldable pub use Rattle.prost_reflect_tables.specs.Linking.{linked_field, linked_message}
pub use Rattle.prost_reflect_tables.specs.Names.{text_or_empty, without_dot}
pub use Rattle.prost_reflect_tables.specs.OptionFaults.{option_bad}
pub use Rattle.prost_reflect_tables.specs.Orders.{sorted_by, put_by, text_at, text_in, text_before}
pub use Rattle.prost_reflect_tables.specs.Places.{place_of, fields_at, fields_or_none}
pub use Rattle.prost_reflect_tables.specs.Rows.{MessageRow, TableRows, FieldRow, OneofRow, EnumValueRow, field_row, oneof_row}
pub use Rattle.prost_reflect_tables.specs.declared.tables.TableKind.{TableKind}
pub use Rattle.prost_reflect_tables.specs.declared.tables.TableKind.TheVariants.{Message, Enum}
