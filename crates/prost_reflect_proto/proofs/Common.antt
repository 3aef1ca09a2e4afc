-- The names that most proofs cite, handed on from one place. Declares nothing.
pub use Rattle.std.specs.Bool.{⊤}
pub use Rattle.std.specs.Int.{cast_signed, cast_unsigned, w32, w64}
pub use Rattle.std.specs.List.{list_all, list_any}
pub use Rattle.std.specs.Option.{is_some}
unfoldable pub use Rattle.std.specs.Str.{chars, is_utf8}
pub use Rattle.std.specs.declared.alloc.Global.{Global}
pub use Rattle.std.proofs.Common.{Bool, Bor, Err, Fits, IfErr, IfOk, List, None, Ok, Option, Result, Some, String, Vec, [], add-one, ap, append-nil, append_assoc, ap₂, arith, cond, drop, drop-cons, false, filter, flat_map, get_or, inl, inr, length, length-drop, lit≤, map, nat_eq, nat_le, nat_lt, not, option_map, refl, rules, string_bytes, subst, suc, sym, true, true≢false, zero, ℕ, ℤ, ◌∙◌}
pub use Rattle.std.proofs.lemmas.Bool.{and_from, and_parts, eq-eqb, eqb-true, false_from_ne_true, le-leb, or_parts}
pub use Rattle.std.proofs.lemmas.List.{nil_from_length}
pub use Rattle.std.proofs.lemmas.Option.{none-some, same_Some}
pub use Rattle.std.proofs.lemmas.Result.{err_from_is_err_and, on_ok_weaker}
pub use Rattle.prost_reflect_wire.specs.Content.{Content, ContentOf, Entries, Item, ListValue, MapValue, MessageValue, NoValues, ScalarValue, Slot, Stored, Value, Values, comes_before, entries_ordered, store, table, then_unknowns, then_value, values_from, values_ordered}
pub use Rattle.prost_reflect_wire.specs.Fault.{Behind, Comes, ElementEnds, ElementFault, ElementPasses, Here, InMessage, OfType, PackedNext, Place, Stands, StandsInMessage, TextNext, ValueFault, field_at, opens_level, takes}
pub use Rattle.prost_reflect_wire.specs.Front.{DelimitedFront, KeyFault, KeyFront, RecordFront, RecordsFront, VarintFault, VarintFront}
pub use Rattle.prost_reflect_wire.specs.Grammar.{Accepts, AllowsInside, LEVEL_LIMIT, body, field_allowed, has_number, last, numbered, or_none, payloads, record_allowed, records_in, value_payloads, value_records}
unfoldable pub use Rattle.prost_reflect_wire.specs.Grammar.{allows, unpacked}
pub use Rattle.prost_reflect_wire.specs.Meaning.{MeansInside, decoded, element, field_value, meaning_at, present, present_list, record_numbers, scalar_values, survive, value_meaning}
unfoldable pub use Rattle.prost_reflect_wire.specs.Meaning.{meaning}
pub use Rattle.prost_reflect_wire.specs.Record.{Fix32, Fix64, Flat, Len, Payload, Plain, Record, Records, Spells, Var, body_of, items, payload_levels, record_at, spelled}
unfoldable pub use Rattle.prost_reflect_wire.specs.Record.{read}
pub use Rattle.prost_reflect_wire.specs.Scalar.{BoolKind, Boolean, Bytes, BytesKind, I32, Int32, Scalar, ScalarKind, StringKind, Text, elem, in_i32, low_32, low_i32}
pub use Rattle.prost_reflect_wire.specs.Schema.{Field, FieldForm, MessageOf, Repeated, ScalarOf, Schema, Singular, field_of, is_map, is_sibling, known, passes, schema_valid}
pub use Rattle.prost_reflect_wire.specs.Sinks.{Adds, HasNoBytes, written_since}
pub use Rattle.prost_reflect_wire.specs.Varint.{AreBytes, are_bytes, guard, ◌>>=◌}
unfoldable pub use Rattle.prost_reflect_wire.specs.Varint.{short}
pub use Rattle.prost_reflect_wire.specs.Writing.{element_payloads, encoded, entries_records, field_payloads, list_payloads}
pub use Rattle.prost_reflect_wire.specs.declared.error.DecodeError.{DecodeError}
pub use Rattle.prost_reflect_wire.proofs.Sound.{bind_ok, guard_ok}
pub use Rattle.prost_reflect_wire.proofs.Steps.{flat_append, map_append, meaning_covers}
pub use Rattle.prost_reflect_laws.proofs.Means.{meaning_below}
unfoldable pub use Rattle.prost_reflect_laws.proofs.Means.{below}
pub use Rattle.prost_reflect_types.specs.DescriptorMeaning.{entries_gathered, gathered, in_front_of, record_decoded, value_gathered, values_gathered}
pub use Rattle.prost_reflect_proto.specs.DescriptorReading.{DelimitedFault, FieldRead, Fields, Found, FoundFlag, FoundNumber, FoundRecord, FoundText, PackedRead, StandsAmong, StandsInNested, all_decoded, all_found, at_number, bytes_in, flag_in, found_at, found_in, found_in_record, found_in_records, found_of, in_front, joined_to, kind_at, last_of, nested_decoded, number_in, number_in_plain, record_in, text_in, under}
unfoldable pub use Rattle.prost_reflect_proto.specs.DescriptorReading.{bytes_at, flag_at, number_at, numbers_at, records_at, text_at, texts_at}
pub use Rattle.prost_reflect_proto.specs.DescriptorSound.{FieldSound, RecordSound, ValueSound, sound_test}
pub use Rattle.prost_reflect_types.specs.DescriptorTable.{field_of_row, form_of, rows, scalar_of, type_place, value_type_of}
unfoldable pub use Rattle.prost_reflect_types.specs.DescriptorTable.{record_schema}
pub use Rattle.prost_reflect_types.specs.DescriptorViews.{entries_from, of_enum, of_enum_reserved_range, of_enum_value, of_extension_range, of_field, of_file, of_message, of_method, of_oneof, of_reserved_range, of_service, record_content, shared_files}
unfoldable pub use Rattle.prost_reflect_types.specs.DescriptorViews.{of_bytes, of_flag, of_number, of_numbers, of_records, of_text, of_texts}
unfoldable pub use Rattle.prost_reflect_proto.specs.DescriptorWriting.{field_bytes}
pub use Rattle.prost_reflect_types.specs.declared.table.FieldKind.{FieldKind}
pub use Rattle.prost_reflect_types.specs.declared.table.RecordType.{RecordType}
