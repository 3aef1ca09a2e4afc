-- The names that most proofs cite, handed on from one place. Declares nothing.
pub use Rattle.std.proofs.Common.{sym, ap, ◌∙◌, map, length, rules, List, drop, string_bytes, String, pos, refl, arith, ℕ, Option, true, [], get_or, append_assoc}
pub use Rattle.std.proofs.lemmas.Fn.{always_returns_same}
pub use Rattle.std.proofs.lemmas.List.{length-map}
pub use Rattle.std.proofs.lemmas.List.Sorted.{ranks_by}
pub use Rattle.prost_reflect_tables.specs.CatalogRows.{file_table_row, method_table_row, service_table_row}
pub use Rattle.prost_reflect_tables.specs.Faults.{file_names, names_of}
pub use Rattle.prost_reflect_tables.specs.Flat.{FlatMessageRow, FlatEnumRow, FlatServiceRow, DefinitionRow}
pub use Rattle.prost_reflect_flat.specs.FlatViews.{flat_rows, message_row, service_row, text_list, file_list, enum_row, definition_row}
pub use Rattle.prost_reflect_tables.specs.Gathered.{places_from, pairs_at, pairs_from, all_pairs}
pub use Rattle.prost_reflect_tables.specs.LinkedCatalog.{each_from, file_place, top_file, import_at, linked_method, linked_service}
pub use Rattle.prost_reflect_tables.specs.Linking.{links_of}
pub use Rattle.prost_reflect_tables.specs.Orders.{by_text, sorted_by, text_at, text_before, text_in}
pub use Rattle.prost_reflect_tables.proofs.CatalogParts.{same_file}
pub use Rattle.prost_reflect_tables.proofs.Gathering.{all_shown}
pub use Rattle.prost_reflect_tables.proofs.Pushing.{made_more, front_left}
pub use Rattle.prost_reflect_tables.proofs.TextsAt.{text_there, no_text, texts_there, no_texts}
pub use Rattle.prost_reflect_resolving.specs.Indexed.{all_rows}
