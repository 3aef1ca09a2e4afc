-- The names that most proofs cite, handed on from one place. Declares nothing.
pub use Rattle.std.specs.List.{list_any}
pub use Rattle.std.proofs.Common.{rules, List, map, ap, sym, ◌∙◌, drop, ℕ, false, true, [], get_or, append_assoc, length, arith, leb, subst, cond, IsPermutation, refl, Bool, Vec, Global}
pub use Rattle.std.proofs.lemmas.Bool.{lt-ltb, le-ltb}
pub use Rattle.prost_reflect_tables.specs.Faults.{method_type_missing, import_outside, has_oneof_outside, names_in_enums, names_in_messages, names_in_services}
pub use Rattle.prost_reflect_flat.specs.FlatViews.{message_row, enum_row, text_list, service_row, definition_row}
pub use Rattle.prost_reflect_tables.specs.Spans.{span_of, greater, reaching, AreSpansOf}
pub use Rattle.prost_reflect_tables.specs.Walks.{Computes}
pub use Rattle.prost_reflect_tables.proofs.Pushing.{front_at}
pub use Rattle.prost_reflect_tables.proofs.Spans.{Splits, in_no_span, in_last_span, spans_in_order}
pub use Rattle.prost_reflect_tables.proofs.Walks.{any_found, any_left, rows_any, row_found, row_left}
