-- The names that most proofs cite, handed on from one place. Declares nothing.
pub use Rattle.std.specs.BTreeSet.{BTreeSet, contains}
pub use Rattle.std.specs.Bool.{beq}
pub use Rattle.std.specs.List.{AllByRecursion, list_all, list_any}
unfoldable pub use Rattle.std.specs.List.{IsDistinct}
pub use Rattle.std.specs.Option.{is_none, is_some}
pub use Rattle.std.specs.Ordering.{int_cmp, int_eq, is_eq, nat_cmp, ordering_then}
pub use Rattle.std.specs.Prelude.{IfOk, OnOk, option_map, replicate, reverse, set, slice_get}
pub use Rattle.std.proofs.Common.{Bool, List, None, Option, Some, [], add-one, ap, ap₂, arith, cond, drop, drop-cons, eq-eqb, false, flat_map, get_or, inl, inr, length, map, nat_eq, nat_lt, not, of_z, refl, rules, subst, suc, sym, take, to_z, true, true≢false, w32, zero, ℕ, ℤ, ⊎_elim, ◌∙◌}
pub use Rattle.std.proofs.lemmas.Bool.{and_from, and_parts, cases_lt, eqb-false, eqb-true, le-ltb, lt-ltb, ltb-false, ltb-true, ne_eqb, not-false, not-true, or_parts}
pub use Rattle.std.proofs.lemmas.List.{append-nil, drop-set, get_or-replicate, get_or-set_other, get_or-set_same, length-map, length-replicate, length-set, reverse-append, take_more}
pub use Rattle.prost_reflect_wire.specs.Reduction.{Reduced, TypePairs, all_among, entries_whole, fields_match, has_match, has_no_fellow, holds, is_known, same_default, same_form, same_kind, same_scalar_kind, same_siblings, types_match, value_types_match}
pub use Rattle.prost_reflect_wire.specs.Schema.{Field, FieldForm, GroupOf, Kind, MapFrom, MessageOf, MessageType, Repeated, ScalarOf, Schema, Singular, ValueType, field_of, field_valid, is_key_kind, is_message, is_sibling, is_singular, kind_valid, known, message_type, numbers_differ, passes, same_oneof, schema_valid}
pub use Rattle.prost_reflect_laws.specs.Reducing.{all_pairs, numbers_below}
pub use Rattle.prost_reflect_laws.proofs.Checked.{CheckedField, CheckedMap, checked_field, checked_map, found_valid, known_differ, known_valid}
pub use Rattle.prost_reflect_tables.specs.Linked.{ascending_from, field_linked, is_linked, kind_in_range, message_linked, oneof_in_range}
pub use Rattle.prost_reflect_tables.specs.Rows.{EnumRow, FieldRow, MessageRow, TableRows, field_row, message_row, oneof_row}
pub use Rattle.prost_reflect_tables.specs.Schema.{rows_of, schema_of}
pub use Rattle.prost_reflect_tables.specs.Shown.{enum_kind, own_type, schema_field, schema_kind, schema_message}
unfoldable pub use Rattle.prost_reflect_tables.specs.Shown.{schema_from}
pub use Rattle.prost_reflect_tables.specs.declared.tables.FieldTable.{FieldTable}
pub use Rattle.prost_reflect_tables.specs.declared.tables.Tables.{Tables}
pub use Rattle.prost_reflect_reduction.specs.Explaining.{Explains, at_field, at_number, fault_behind, fellow_fault, fields_fault, first_fault, forms_fault, kinds_fault, pair_fault, step_of, values_fault}
unfoldable pub use Rattle.prost_reflect_reduction.specs.Explaining.{merge_fault}
pub use Rattle.prost_reflect_reduction.specs.Faults.{FaultStands, NumberDiffers, OneofDiffers, TypeDiffers, asked_by, both_enums, differs_in, pair_by, share_oneof}
unfoldable pub use Rattle.prost_reflect_reduction.specs.Faults.{pair_at}
pub use Rattle.prost_reflect_reduction.specs.Kinds.{table_numbers}
unfoldable pub use Rattle.prost_reflect_reduction.specs.Kinds.{AreSameEnums, HasNumbers}
pub use Rattle.prost_reflect_reduction.specs.Merging.{first_member, noted, shown_fields}
unfoldable pub use Rattle.prost_reflect_reduction.specs.Merging.{AreFirst, merged, next_members}
pub use Rattle.prost_reflect_reduction.specs.Reaching.{Needed, Walked, all_held, asked_beside, field_asks, fields_alike, forms_alike, has_alike, kinds_alike, kinds_ask, types_alike, types_ask, values_alike}
unfoldable pub use Rattle.prost_reflect_reduction.specs.Reaching.{all_alike, all_ask}
pub use Rattle.prost_reflect_reduction.specs.Walking.{AreSources, IsPairAt, LeadsOn, Walking, listed, source_at}
unfoldable pub use Rattle.prost_reflect_reduction.specs.Walking.{AreBefore, IsSetOf, joined}
pub use Rattle.prost_reflect_reduction.specs.declared.fault.ReductionFaultKind.{ReductionFaultKind}
pub use Rattle.prost_reflect_reduction.specs.declared.fault.ReductionFaultKind.TheVariants.{Extension, MapEntry, Number}
