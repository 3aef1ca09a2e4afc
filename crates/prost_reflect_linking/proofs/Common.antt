-- The names that most proofs cite, handed on from one place. Declares nothing.
pub use Rattle.std.proofs.Common.{sym, ap, ◌∙◌, map, length, rules, List, drop, Global, refl, arith, ℕ, Option, true, false, Vec, ltb, filter, nat_lt, cond, [], get_or, append_assoc}
pub use Rattle.std.proofs.lemmas.List.{length-map}
pub use Rattle.std.proofs.lemmas.List.Sorted.{IsPartitionPoint-from_clause, IsPartitionedBy-ltb}
pub use Rattle.prost_reflect_tables.specs.Flat.{FlatMessageRow, DefinitionRow}
pub use Rattle.prost_reflect_flat.specs.FlatViews.{flat_rows, message_row, enum_row, definition_row}
pub use Rattle.prost_reflect_tables.specs.Indexing.{with_item, list_rows, grouped, empty_lists}
pub use Rattle.prost_reflect_tables.specs.LinkedCatalog.{each_from}
pub use Rattle.prost_reflect_tables.specs.Linking.{links_of, declared_fields, extended_place, linked_field, linked_enum, oneof_place, member_place, belonging, oneofs_from, linked_oneof, linked_value}
pub use Rattle.prost_reflect_tables.specs.Resolved.{ResolvedRow}
pub use Rattle.prost_reflect_tables.specs.Rows.{FieldRow, field_row, oneof_row, EnumValueRow, enum_value_row}
pub use Rattle.prost_reflect_tables.proofs.Grouping.{more_grouped, all_grouped, groups_length, group_of, same_oneof, smaller_count}
pub use Rattle.prost_reflect_flat.proofs.Oneofs.{oneof_more}
pub use Rattle.prost_reflect_resolving.specs.Indexed.{all_rows}
pub use Rattle.prost_reflect_resolving.specs.Resolved.{resolved_row, resolved_lists}
