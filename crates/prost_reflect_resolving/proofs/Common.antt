-- The names that most proofs cite, handed on from one place. Declares nothing.
pub use Rattle.std.specs.BTreeMap.{BTreeMap, get_by_text}
pub use Rattle.std.specs.List.{position_from}
pub use Rattle.std.specs.declared.alloc.Global.{Global}
pub use Rattle.std.proofs.Common.{ℕ, zero, suc, ℤ, pos, Bool, true, false, cond, List, [], map, length, take, drop, get_or, String, Option, Some, None, unwrap_or, slice_get, refl, sym, ap, ◌∙◌, arith, add-zero, zero-add, bytes_eq, find, option_map, string_bytes}
pub use Rattle.std.proofs.lemmas.List.{length-map, take_more, map-append, length-take}
pub use Rattle.prost_reflect_types.specs.declared.EnumValueDescriptorProto.{EnumValueDescriptorProto}
pub use Rattle.prost_reflect_tables.specs.EntryFaults.{is_entry}
pub use Rattle.prost_reflect_tables.specs.Faults.{name_place, place_named, message_names, enum_names}
pub use Rattle.prost_reflect_tables.specs.Flat.{FlatRows, FlatMessageRow, FlatEnumRow, behind}
pub use Rattle.prost_reflect_flat.specs.FlatViews.{message_row, definition_row, enum_row, text_list, flat_rows}
pub use Rattle.prost_reflect_tables.specs.Linking.{links_of, linked_value}
pub use Rattle.prost_reflect_tables.specs.Names.{text_or_empty, without_dot}
unfoldable pub use Rattle.prost_reflect_tables.specs.Resolved.{resolve}
pub use Rattle.prost_reflect_tables.specs.Rows.{EnumValueRow}
pub use Rattle.prost_reflect_tables.specs.WrittenDefaults.{number_named}
pub use Rattle.prost_reflect_resolving.specs.Indexed.{all_rows, place_from, IsIndexFrom, IsNumbersOf, AreNumbersOf}
pub use Rattle.prost_reflect_resolving.specs.Resolved.{resolved_row, resolved_lists}
