-- The names that most proofs cite, handed on from one place. Declares nothing.
pub use Rattle.std.specs.List.{list_any}
pub use Rattle.std.proofs.Common.{rules, List, map, ap, sym, ◌∙◌, drop, ℕ, false, [], ℤ, Some, append_assoc, length, subst, refl, Bool, Vec, Global}
pub use Rattle.prost_reflect_tables.specs.EntryFaults.{is_entry, entry_bad, is_of_entry, method_of_entry, wrongly_of_entry}
pub use Rattle.prost_reflect_tables.specs.Faults.{Numbered, number_or_zero, numbered_at, numbered_fields, numbered_in, same_numbered, extension_outside, extendee_unknown, method_type_unknown, type_unknown}
pub use Rattle.prost_reflect_flat.specs.FlatViews.{flat_rows, message_row, file_list, definition_row}
pub use Rattle.prost_reflect_tables.specs.Linking.{links_of}
pub use Rattle.prost_reflect_tables.specs.Resolved.{ResolvedRow}
pub use Rattle.prost_reflect_tables.specs.ResolvedFaults.{bad_read, bad_float, found_of_entry, wrongly_found, numbered_found, found_outside, extendee_unfound, type_unfound}
pub use Rattle.prost_reflect_tables.specs.Spans.{ranges_of, AreSpansOf, AreSpansAt, AreSpansIn}
pub use Rattle.prost_reflect_tables.specs.Walks.{Computes}
pub use Rattle.prost_reflect_resolving.specs.Indexed.{all_rows}
pub use Rattle.prost_reflect_resolving.specs.Resolved.{resolved_row, resolved_lists}
pub use Rattle.prost_reflect_resolving.specs.declared.resolve.ResolvedField.{ResolvedField}
pub use Rattle.prost_reflect_checks.specs.Numbers.{numbered, numbered_list}
pub use Rattle.prost_reflect_tables.proofs.Pushing.{seen_more, front_left}
pub use Rattle.prost_reflect_tables.proofs.Resolving.{bad_is, float_is, of_entry_is, wrongly_is, numbered_is, outside_same, extendee_is, type_is, any_of, any_of_messages}
pub use Rattle.prost_reflect_tables.proofs.Walks.{rows_any, row_found, row_left}
