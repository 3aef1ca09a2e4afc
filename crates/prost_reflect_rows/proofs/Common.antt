-- The names that most proofs cite, handed on from one place. Declares nothing.
pub use Rattle.std.specs.BTreeSet.{BTreeSet}
pub use Rattle.std.specs.List.{list_all, list_any, position_or_len}
pub use Rattle.std.specs.Option.{is_some, option_and_then, option_map}
pub use Rattle.std.specs.Ordering.{int_eq}
pub use Rattle.std.specs.Prelude.{max, position, slice_get}
pub use Rattle.std.proofs.Common.{Bool, List, None, Option, Some, [], ap, ap₂, arith, cond, false, length, map, nat_eq, nat_le, nat_lt, not, of_z, pos, refl, rules, subst, suc, sym, to_z, true, true≢false, w32, ℕ, ℤ, ◌∙◌}
pub use Rattle.std.proofs.lemmas.Bool.{and_from, and_parts, eqb-true, le-ltb, lt-ltb, ltb-false, ltb-true}
pub use Rattle.std.proofs.lemmas.Bool.Decides.{Decides-int_eq}
pub use Rattle.std.proofs.lemmas.List.{length-map}
pub use Rattle.std.proofs.lemmas.Option.{slice_get_within}
pub use Rattle.prost_reflect_wire.specs.Content.{ScalarValue, ◌and_then◌}
pub use Rattle.prost_reflect_wire.specs.Edit.{message_of_kind}
pub use Rattle.prost_reflect_wire.specs.Front.{FieldFront, KeyFront, ValueFront}
pub use Rattle.prost_reflect_wire.specs.Grammar.{LEVEL_LIMIT, allows, is_stray}
pub use Rattle.prost_reflect_wire.specs.Levels.{greatest_level}
pub use Rattle.prost_reflect_wire.specs.Record.{Fix32, Fix64, Flat, Group, Len, Payload, Plain, Record, Spells, Var, body_of, payload_levels, payload_wire, raw_levels, record_at}
pub use Rattle.prost_reflect_wire.specs.Scalar.{Enum, EnumNumbers, Scalar, ScalarKind, elem, in_i32, is_undeclared, kind_wire, low_i32, scalar_valid, written}
pub use Rattle.prost_reflect_wire.specs.Schema.{Field, FieldForm, GroupOf, Kind, MapFrom, MessageOf, Repeated, ScalarOf, Schema, Singular, ValueType, field_of, field_valid, is_group, is_key_kind, is_list, is_map, is_message, is_singular, kind_valid, known, schema_valid}
pub use Rattle.prost_reflect_wire.specs.Varint.{are_bytes, ◌>>=◌}
pub use Rattle.prost_reflect_wire.specs.declared.key.WireType.{WireType}
pub use Rattle.prost_reflect_wire.proofs.Bodies.{items_body}
pub use Rattle.prost_reflect_wire.proofs.RecordFronts.{field_front, field_once, first_parts, key_shorter, levels_first, payload_no_longer, record_parts}
pub use Rattle.prost_reflect_laws.proofs.Checked.{checked_field, checked_list, checked_map, found_valid, known_valid}
pub use Rattle.prost_reflect_laws.proofs.ScalarEntries.{map_keyed}
pub use Rattle.prost_reflect_tables.specs.Linked.{has_entry_numbers, is_linked}
pub use Rattle.prost_reflect_tables.specs.Linking.{is_repeated}
pub use Rattle.prost_reflect_tables.specs.Places.{fields_at, is_declared, is_declared_at, place_of, row_of}
pub use Rattle.prost_reflect_tables.specs.Rows.{EnumRow, EnumValueRow, FieldRow, MessageRow, TableRows, enum_row, field_row, value_numbers}
pub use Rattle.prost_reflect_tables.specs.Shown.{entry_at, entry_or_none, enum_kind, enum_numbers, first_number, form_of, map_entry, own_type, schema_field, schema_kind, type_or, value_type_of}
unfoldable pub use Rattle.prost_reflect_tables.specs.Shown.{schema_from}
pub use Rattle.prost_reflect_tables.specs.declared.tables.Cardinality.{Cardinality}
pub use Rattle.prost_reflect_tables.specs.declared.tables.TableKind.{TableKind}
pub use Rattle.prost_reflect_tables.proofs.Fields.{field_of_number, known_row, no_row, row_at_place}
pub use Rattle.prost_reflect_tables.proofs.Keeping.{entry_keeps, schema_is_valid}
pub use Rattle.prost_reflect_pool.specs.Enums.{first_of, numbers_or_none, values_at, values_or_none}
pub use Rattle.prost_reflect_pool.specs.Lookups.{numbered_value}
pub use Rattle.prost_reflect_pool.specs.MapParts.{entry_parts, map_parts, two_of}
pub use Rattle.prost_reflect_pool.specs.MessageTypes.{fields_of, schema_at, type_at}
pub use Rattle.prost_reflect_pool.specs.PoolEquality.{contents_decide, contents_eq}
pub use Rattle.prost_reflect_pool.specs.SharedPools.{pool_contents, pool_rows}
pub use Rattle.prost_reflect_pool.specs.declared.pooled_type.PooledType.{PooledType}
pub use Rattle.prost_reflect_fields.specs.Known.{known_of, oneof_of}
pub use Rattle.prost_reflect_maps.specs.NumberSets.{has}
pub use Rattle.prost_reflect_fields.specs.WholeOneofs.{HasWholeOneofs}
pub use Rattle.prost_reflect_rows.specs.RowKinds.{place_named, single_place, is_plain, is_plain_kind, names_message}
pub use Rattle.prost_reflect_rows.specs.FieldKinds.{ListField, MapOfRows, ScalarMap, NestedMap, NumberList, PlainField, NestedField, NestedList, nested_kind}
pub use Rattle.prost_reflect_rows.specs.RecordNumbers.{BeginsWith, HasNumbersOf}
pub use Rattle.prost_reflect_rows.specs.Paths.{declared_place, PATH_LIMIT, field_at, field_led, message_inside, own_field, path_place, place_behind, row_led, type_inside}
pub use Rattle.prost_reflect_rows.specs.Scalars.{is_stray_number}
pub use Rattle.prost_reflect_tables.specs.WrittenDefaults.{plain_kind}
pub use Rattle.prost_reflect_rows.specs.Targets.{IsTarget, element_target_of, entry_target_of, repeated_target_of, target_of}
