-- The names that most proofs cite, handed on from one place. Declares nothing.
pub use Rattle.std.specs.List.{AllZip, list_any}
pub use Rattle.std.specs.Prelude.{IsTrue, codes, option_map, unwrap_or}
pub use Rattle.std.specs.Str.{bytes_eq}
pub use Rattle.std.specs.declared.alloc.Global.{Global}
pub use Rattle.std.proofs.Common.{Bool, List, None, Option, Some, String, Vec, [], ap, ap₂, drop, false, is_none, length, map, nat_eq, not, pos, refl, string_bytes, subst, sym, true, ℕ, ◌∙◌}
pub use Rattle.std.proofs.lemmas.Bool.{and_right, not-false, not-true, or_from}
pub use Rattle.std.proofs.lemmas.List.{map-append}
pub use Rattle.prost_reflect_types.specs.DescriptorViews.{shared_files}
pub use Rattle.prost_reflect_types.specs.declared.DescriptorProto.{DescriptorProto}
pub use Rattle.prost_reflect_types.specs.declared.DescriptorProto.TheViews.{out-DescriptorProto, out-roll-DescriptorProto}
pub use Rattle.prost_reflect_types.specs.declared.FieldDescriptorProto.{FieldDescriptorProto}
pub use Rattle.prost_reflect_types.specs.declared.FileDescriptorProto.{FileDescriptorProto}
pub use Rattle.prost_reflect_tables.specs.Adding.{AreNamesOf, added, have_one_name, is_named, is_there}
pub use Rattle.prost_reflect_tables.specs.Checked.{Checked, has_fault}
pub use Rattle.prost_reflect_tables.specs.EntryFaults.{bad_map_entry, entry_bad, is_entry, is_key_and_value, is_of_entry, names_entry, wrongly_of_entry}
pub use Rattle.prost_reflect_tables.specs.Faults.{any_field, bad_label, bad_number, bad_oneof, dependency_missing, duplicate_name, duplicate_number, file_names, has_oneof_outside, has_repeated_label, import_outside, is_code, is_enum_type, is_field_number, is_message_type, is_outside, is_type, is_unnamed, label_bad, message_range_bad, message_unnamed, missing_dependency, missing_type, name_place, names_of, number_bad, number_repeats, numbered_fields, oneof_outside, range_bad, repeated_member, repeats, syntax_unknown, type_missing, type_unknown, unknown_syntax, unknown_type}
pub use Rattle.prost_reflect_tables.specs.Flat.{DefinitionRow, FlatMessageRow, FlatRows, Given, Placed, ScopeRow, all_from, behind, defined, defined_from, enums_from, field_name, file_at, file_scope, files_from, flattened, inside, is_proto3, message_step, oneof_name, own_message, services_from}
unfoldable pub use Rattle.prost_reflect_tables.specs.Flat.{message_at}
pub use Rattle.prost_reflect_tables.specs.Linked.{is_linked}
pub use Rattle.prost_reflect_tables.specs.Linking.{Links, declared_fields, in_order, is_group_code, is_message, kind_of_code, linked_identity, linked_rows, links_of, oneofs_from, place_or_first}
unfoldable pub use Rattle.prost_reflect_tables.specs.Linking.{linked_field, linked_message}
pub use Rattle.prost_reflect_tables.specs.Names.{joined, text_or_empty}
pub use Rattle.prost_reflect_tables.specs.OptionFaults.{bad_options, option_bad}
pub use Rattle.prost_reflect_tables.specs.Rows.{FieldRow, IdentityRow, MessageRow, TableRows, rows_from}
pub use Rattle.prost_reflect_tables.specs.declared.error.PoolError.{PoolError}
pub use Rattle.prost_reflect_tables.proofs.Adding.{name_more, name_new, names_stay, no_length, none_added, skipped, taken, unnamed_new}
pub use Rattle.prost_reflect_tables.proofs.Built.{linked_of}
pub use Rattle.prost_reflect_building.specs.BuiltinFiles.{AreBuiltin, FieldView, HasScalars, IsScalarFile, IsScalarMessage, field_view, scalar_view}
unfoldable pub use Rattle.prost_reflect_building.specs.BuiltinFiles.{scalar_names}
unfoldable pub use Rattle.prost_reflect_pool.specs.FileNames.{names_differ}
pub use Rattle.prost_reflect_pool.specs.Pools.{IsPoolOf, RefusesFiles, files_of, pool_rows}
pub use Rattle.prost_reflect_pool.specs.declared.pool.LinkedPool.{LinkedPool}
