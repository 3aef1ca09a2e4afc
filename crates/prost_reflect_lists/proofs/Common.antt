-- The names that most proofs cite, handed on from one place. Declares nothing.
pub use Rattle.std.proofs.Common.{sym, ap, ◌∙◌, map, length, rules, List, drop, Global, refl, arith, ℕ, Option, true, false, Vec, filter, not, cond, [], get_or, append_assoc}
pub use Rattle.std.proofs.lemmas.List.{length-map}
pub use Rattle.prost_reflect_tables.specs.CatalogRows.{extension_table_row, enum_lists_row, message_lists_row}
pub use Rattle.prost_reflect_tables.specs.Flat.{FlatMessageRow, FlatEnumRow, DefinitionRow}
pub use Rattle.prost_reflect_flat.specs.FlatViews.{flat_rows, message_row, text_list, enum_row, definition_row}
pub use Rattle.prost_reflect_tables.specs.Gathered.{places_from}
pub use Rattle.prost_reflect_tables.specs.LinkedCatalog.{each_from, linked_lists, linked_extension, field_names, json_names, enum_lists, own_fields, value_names}
pub use Rattle.prost_reflect_tables.specs.Linking.{links_of, extended_place, linked_field, value_number}
pub use Rattle.prost_reflect_tables.specs.Orders.{by_text}
pub use Rattle.prost_reflect_tables.specs.Resolved.{ResolvedRow}
pub use Rattle.prost_reflect_tables.specs.Rows.{TableRows, FieldRow, field_row}
pub use Rattle.prost_reflect_tables.proofs.CatalogParts.{same_lists}
pub use Rattle.prost_reflect_tables.proofs.Pushing.{front_left, rows_more}
pub use Rattle.prost_reflect_resolving.specs.Indexed.{all_rows}
pub use Rattle.prost_reflect_resolving.specs.Resolved.{resolved_row}
