-- The names that most proofs cite, handed on from one place. Declares nothing.
pub use Rattle.std.specs.List.{All, AllZip, list_all, list_any, position_from}
pub use Rattle.std.specs.List.Sorted.{IsNonDecreasingBy}
pub use Rattle.std.specs.Option.{is_some, option_and_then}
pub use Rattle.std.specs.Ordering.{int_cmp, int_eq, is_eq, is_lt, nat_cmp, ordering_index, ordering_reverse}
pub use Rattle.std.specs.Prelude.{filter, find, nat_le, option_map, position, slice_get, unwrap_or}
pub use Rattle.std.specs.Str.{bytes_eq}
pub use Rattle.std.specs.declared.alloc.Global.{Global}
pub use Rattle.std.specs.declared.cmp.Ordering.{Ordering}
pub use Rattle.std.specs.declared.rc.Rc.{Rc}
pub use Rattle.std.proofs.Common.{Bool, List, None, Option, Some, String, Vec, [], add-one, ap, ap₂, arith, cond, drop, drop-cons, false, get_or, length, length-drop, map, nat_eq, not, of_z, pos, refl, rules, subst, suc, sym, take, to_z, true, true≢false, w32, zero, zero-add, ℕ, ℤ, ◌∙◌}
pub use Rattle.std.proofs.Math.Facts.{to_z-of_z}
pub use Rattle.std.proofs.lemmas.Bool.{and_parts, eqb-true, false_from_ne_true, not-true, or_from, or_parts}
pub use Rattle.std.proofs.lemmas.List.{append-nil, append_assoc, append_cancel_right, length-map, take_all}
pub use Rattle.std.proofs.lemmas.List.Elements.{All-append, All-cons, All-filter, All-head, All-map, All-nil, All-same, All-tail, All-weaker}
pub use Rattle.std.proofs.lemmas.Option.{get_or_from_slice_get, same_Some, slice_get-get_or, slice_get-map, slice_get_past, slice_get_read, slice_get_within}
pub use Rattle.prost_reflect_wire.specs.Schema.{passes}
pub use Rattle.prost_reflect_types.specs.DescriptorViews.{of_file, of_files, of_records, shared_files}
pub use Rattle.prost_reflect_types.specs.declared.DescriptorProto.{DescriptorProto}
pub use Rattle.prost_reflect_types.specs.declared.DescriptorProto.TheViews.{out-DescriptorProto, out-roll-DescriptorProto}
pub use Rattle.prost_reflect_types.specs.declared.FieldDescriptorProto.{FieldDescriptorProto}
pub use Rattle.prost_reflect_types.specs.declared.FileDescriptorProto.{FileDescriptorProto}
pub use Rattle.prost_reflect_tables.specs.Adding.{added, first_of_name, have_one_name, is_there}
pub use Rattle.prost_reflect_tables.specs.CatalogRows.{CatalogRows, EnumListsRow, ExtensionRow, FileRow, MessageListsRow, MethodRow, ServiceRow, catalog_row, enum_lists_row, extension_table_row, file_table_row, message_lists_row, method_table_row, service_table_row}
pub use Rattle.prost_reflect_tables.specs.Checked.{Checked}
pub use Rattle.prost_reflect_tables.specs.Faults.{enum_names, file_names, message_names, names_in_enums, names_in_messages, names_in_services, names_of, repeats}
pub use Rattle.prost_reflect_tables.specs.Flat.{DefinitionRow, FlatEnumRow, FlatMessageRow, FlatRows, FlatServiceRow, Given, Placed, ScopeRow, all_from, defined, defined_from, enum_at, enums_from, field_name, file_at, file_scope, files_from, flattened, inside, message_parts, message_step, method_name, oneof_name, own_message, service_at, services_from, value_name}
unfoldable pub use Rattle.prost_reflect_tables.specs.Flat.{message_at}
pub use Rattle.prost_reflect_tables.specs.Gathered.{all_pairs, all_places, list_at, pairs_at, pairs_from, places_from, places_where}
pub use Rattle.prost_reflect_tables.specs.Linked.{is_linked}
pub use Rattle.prost_reflect_tables.specs.LinkedCatalog.{each_from, enum_lists, field_names, json_names, linked_catalog, linked_extension, linked_lists, linked_method, linked_service, ordered, own_fields, value_names}
unfoldable pub use Rattle.prost_reflect_tables.specs.LinkedCatalog.{IsCatalogOf}
pub use Rattle.prost_reflect_tables.specs.Linking.{Links, belonging, declared_fields, extended_place, fields_of_message, in_order, is_place, linked_enum, linked_oneof, linked_rows, linked_value, links_of, messages_from, oneof_place, oneofs_from, put_in_order, value_number}
unfoldable pub use Rattle.prost_reflect_tables.specs.Linking.{linked_field, linked_message}
pub use Rattle.prost_reflect_tables.specs.Names.{bracketed, text_or_empty}
pub use Rattle.prost_reflect_tables.specs.Orders.{by_number, by_text, number_at, put_by, sorted_by, text_at, text_before, text_in}
pub use Rattle.prost_reflect_tables.specs.Places.{fields_at, fields_or_none, is_declared_at, place_of, row_of}
pub use Rattle.prost_reflect_tables.specs.Rows.{EnumRow, EnumValueRow, FieldRow, MessageRow, OneofRow, TableRows, enum_row, enum_value_row, field_row, message_row, oneof_row, rows_from}
pub use Rattle.prost_reflect_tables.specs.declared.error.PoolError.{PoolError}
pub use Rattle.prost_reflect_tables.proofs.Built.{checked_of, linked_of, none_built}
pub use Rattle.prost_reflect_tables.proofs.CatalogLinks.{ExtensionThere, HasRow, ImportsThere, MethodThere, extension_there, fields_shown, imports_there, mapped_at, marked_extension, methods_there}
pub use Rattle.prost_reflect_tables.proofs.CatalogRanges.{CatalogWithin, EnumListsWithin, EnumRowWithin, FileRowWithin, IdentityWithin, IsInside, ListsWithin, MessageRowWithin, ServiceRowWithin, catalog_within, field_within, holds_at, in_order_all, pairs_inside, values_linked}
pub use Rattle.prost_reflect_tables.proofs.Keeping.{field_keeps, fields_ascend, passes_at}
pub use Rattle.prost_reflect_tables.proofs.TextsAt.{no_text, no_texts, text_there, texts_there}
pub use Rattle.prost_reflect_pool.specs.Enums.{values_at, values_or_none}
unfoldable pub use Rattle.prost_reflect_pool.specs.FileNames.{names_differ}
pub use Rattle.prost_reflect_pool.specs.Lookups.{extending_or_none, extension_name, extension_place, extension_where, full_name_or_empty, numbered_value, value_place, value_places}
pub use Rattle.prost_reflect_pool.specs.PoolEquality.{contents_decide}
unfoldable pub use Rattle.prost_reflect_pool.specs.PoolEquality.{contents_eq}
pub use Rattle.prost_reflect_pool.specs.Pools.{IsPoolOf, IsPoolOfBytes, MakesAgain, Reads, Refuses, RefusesFiles, RefusesRead, files_of, pool_catalog, pool_contents, pool_rows}
unfoldable pub use Rattle.prost_reflect_pool.specs.Pools.{contents_of}
pub use Rattle.prost_reflect_pool.specs.RecordPaths.{AnyRecord, EnumRecord, FieldRecord, FileRecord, Found, MessageRecord, MethodRecord, OneofRecord, ServiceRecord, ValueRecord, member, methods_at, methods_or_none, oneofs_at, oneofs_or_none, record_below, record_in, record_of}
pub use Rattle.prost_reflect_pool.specs.declared.pool.LinkedPool.{LinkedPool}
