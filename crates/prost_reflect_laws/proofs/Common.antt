-- The names that most proofs cite, handed on from one place. Declares nothing.
pub use Rattle.std.specs.Bool.{beq, ⊤}
unfoldable pub use Rattle.std.specs.Char.{encode_utf8}
pub use Rattle.std.specs.Int.{w32, w64, cast_signed, from_le_bytes, to_le_bytes, bytes_low_first, byte_at, cast_unsigned}
pub use Rattle.std.specs.List.{list_all, list_any}
pub use Rattle.std.specs.Option.{is_some}
pub use Rattle.std.specs.Ordering.{int_eq, nat_cmp, int_cmp, bool_cmp, is_eq, on, then_cmp, ordering_then, ordering_reverse}
pub use Rattle.std.specs.Prelude.{IsTrue, max, if◌then◌else◌, unwrap_or}
pub use Rattle.std.specs.Str.{IsUtf8}
unfoldable pub use Rattle.std.specs.Str.{is_utf8, chars}
pub use Rattle.std.proofs.Common.{◌≡◌, ℕ, List, ap, sym, ◌∙◌, Option, Some, None, refl, true≢false, ◌↔◌, Bool, nat_lt, true, false, [], ◌∷◌, flat_map, suc, length, cond, not, ◌&&◌, ◌||◌, ℤ, map, filter, ap₂, zero, ◌≤◌, ◌++◌, nat_le, nat_eq, arith, ◌<◌, ◌+◌, append-nil, append_assoc, ◌⊎◌, inl, inr, ◌≢◌, subst, length-append, ◌/◌, ◌%◌, ◌^◌, pos, negsuc, SFits, lit<, lit≤, ◌*◌, get_or, take, drop, ◌-◌, mod-eq_of_lt}
pub use Rattle.std.proofs.Math.Bool.{or-false, or-true}
pub use Rattle.std.proofs.lemmas.Bool.{eq-eqb, eqb-true, and_parts, leb-true, le-leb, lt-ltb, and_from, or_parts, eqb-false, ltb-false, ne_eqb, ltb-true, not-true, cases_lt, cases_eq, or_left, or_right}
pub use Rattle.std.proofs.lemmas.List.Folds.{list_all-append, list_any-append}
pub use Rattle.std.proofs.lemmas.Option.{none-some, same_Some}
pub use Rattle.prost_reflect_wire.specs.Content.{Content, Value, ScalarValue, MessageValue, ContentOf, Entries, NoEntries, Stored, Unknown, ListValue, MapValue, Values, NoValues, Item, Pairs, NoPairs, Pair, schema_of, type_of, values_from, Slot, then_unknowns, then_value, table, comes_before, key_before, ordered, entries_ordered, value_ordered, values_ordered, pairs_ordered, value_at, unknowns_at, slot_at, numbers_in, store, empty, ◌and_then◌, changed, entries_of, insert_number}
pub use Rattle.prost_reflect_wire.specs.Deciding.{scalar_decides}
pub use Rattle.prost_reflect_wire.specs.Decoding.{ReadTo, Holds, Step, ScalarRead, ScalarFault, RecordRead, ElementsRead, ElementsJoined, list_takes, StandsBehindKey, NumbersJoined, BodyJoined, declared_values, FieldFault, packed_values, Progress, StandsInGroup}
pub use Rattle.prost_reflect_wire.specs.Edit.{with_field_value, set_field, default_of, default_value, value_or_default, in_message, set_at, message_of_kind, PathTo, holds_message, edited, with_value, merged, values_hold_message, pairs_hold_message, in_field}
pub use Rattle.prost_reflect_wire.specs.EntryReading.{EntryTo, EntryPlace, plain_type, ScalarEntryTo, StandsInEntry, IsMapped, BodyFault}
pub use Rattle.prost_reflect_wire.specs.Fault.{Place, OfType, OfEntry, OfNothing, field_at, TextNext, PackedNext, same_wire, one_takes, packed_takes, takes, needs_level, opens_level, Stands, Here, Behind, InMessage, InGroup, InUnknown, InEntry, entry_field, ValueFault, StandsInMessage, ElementEnds, BehindElement, Comes, StandsInField, StandsInValue, ValueComes, ElementFault, ElementPasses, Next, NextField}
pub use Rattle.prost_reflect_wire.specs.Front.{KeyFront, PlainFront, DelimitedFront, RecordsFront, PayloadFront, KeyFault, PlainFault, ValueFront, RecordFront, AreOpen, FieldFront, VarintEnds, VarintPasses, NoKey, VarintFront, VarintFault, GroupFront, PayloadEnds, PayloadPasses}
pub use Rattle.prost_reflect_wire.specs.Grammar.{Accepts, accepts, AllowsInside, is_stray, element_payloads_in, value_payloads, stray_payloads, one_allowed, field_allowed, or_none, plains_within, numbered, last, records_in, is_stray_entry, fits, body, is_len, packed_allowed, in_entry_allowed, has_level, record_allowed, nothing_inside, payloads, value_records, has_number, unknown_payloads, LEVEL_LIMIT, is_group_payload}
unfoldable pub use Rattle.prost_reflect_wire.specs.Grammar.{allows, unpacked}
pub use Rattle.prost_reflect_wire.specs.Levels.{greatest_level, stray_levels, unknown_levels, levels, entries_levels, value_levels, values_levels, pairs_levels}
pub use Rattle.prost_reflect_wire.specs.Meaning.{MeansInside, element, scalar_values, field_value, record_numbers, survive, present, present_list, present_map, one_value, put, put_entry, put_entries, entry_key, entry_value, meaning_at, meaning_by, empty_inside, JoinsInside, unknowns_meaning, value_joined, value_steps, after_last, value_meaning, joins_nothing, value_step, joined, message_value, decoded, values_in, last_or, value_behind, slot_step, steps_by, content_in, pairs_in, one_joined, step_by}
unfoldable pub use Rattle.prost_reflect_wire.specs.Meaning.{meaning, steps}
pub use Rattle.prost_reflect_wire.specs.Record.{Records, items, Record, Payload, body_of, payload_valid, valid, Plain, Var, Fix64, Len, Fix32, Flat, Group, payload_levels, spelled, short_body, NoRecords, Key, payload_wire, before, plain_wire, number_valid, plain_valid, Spells, raw_levels, wire_code, SpellsPlain, wire_of, plain_at, short_key, short_plain, PlainRecord, GroupRecord}
unfoldable pub use Rattle.prost_reflect_wire.specs.Record.{read}
pub use Rattle.prost_reflect_wire.specs.Reduction.{TypePairs, holds, same_kind, all_among, same_numbers, same_scalar_kind, same_default, value_types_match, same_form, Reduced, types_match, is_known, has_no_fellow, fields_match, same_siblings, has_match, entries_whole, all_match}
pub use Rattle.prost_reflect_wire.specs.Scalar.{Scalar, ScalarKind, elem, scalar_valid, Double, Float, Int64, Uint64, Int32, Fixed64, Fixed32, BoolKind, StringKind, BytesKind, Uint32, Sfixed32, Sfixed64, Sint32, Sint64, Enum, EnumNumbers, Open, Closed, EnumNumber, is_declared, is_undeclared, kind_default, kind_wire, scalar_eq, in_i32, low_i32, written, scalar_lt, F64, F32, I64, U64, I32, U32, Boolean, Text, Bytes, unzigzag, low_32, in_i64, variant_rank, scalar_cmp, is_less, zigzag}
pub use Rattle.prost_reflect_wire.specs.Schema.{Schema, passes, Kind, ScalarOf, MessageOf, GroupOf, ValueType, FieldForm, Singular, Repeated, MapFrom, is_packable, Field, known, field_of, is_message, is_singular, is_key_kind, is_packable_kind, field_valid, schema_valid, is_list, is_sibling, is_map, MessageType, has_kind_default, is_group, is_bare, message_has_presence, kind_valid, default_valid, form_valid, oneof_valid, numbers_differ, message_type, same_oneof}
pub use Rattle.prost_reflect_wire.specs.Storing.{with_stored, with_unknown, joined_slot, kept_records, value_bytes, stored_bytes, slot_bytes}
pub use Rattle.prost_reflect_wire.specs.Typing.{is_of_type, kind_takes, element_valid, elements_valid, pairs_valid, value_valid, is_whole_stray, unknown_fits, entries_pass, value_passes, values_pass, pairs_pass, fit_test, encodable, Typed, EntriesTyped, ValueTyped, ValuesTyped, PairsTyped, has_value_of, EntryTest, everywhere, is_alone, alone_test, is_empty_value, is_stored_default, filled_test, default_test, kind_for, IsOf, kept, kept_value, kept_inside, ValueStored, kept_values, WellStored, WellTyped, own_kind, is_field_default, kept_entries, kept_pairs}
pub use Rattle.prost_reflect_wire.specs.Varint.{AreBytes, ◌>>=◌, are_bytes, Varint, AreDigits, guard}
unfoldable pub use Rattle.prost_reflect_wire.specs.Varint.{short}
pub use Rattle.prost_reflect_wire.specs.Writing.{records, value_payload, is_default_of, record_at, scalar_payload, message_payload, entry_record, end_to_end, list_payloads, entries_records, field_payloads, element_payloads, pair_payload, pair_payloads, key_of, encoded, entry_payload, payload_bytes}
pub use Rattle.prost_reflect_wire.specs.declared.error.DecodeError.{DecodeError}
pub use Rattle.prost_reflect_wire.specs.declared.key.WireType.{WireType}
pub use Rattle.prost_reflect_wire.proofs.Bodies.{items_body, items_before}
pub use Rattle.prost_reflect_wire.proofs.ByteLists.{bytes_front, bytes_behind, test_bytes, bytes_test}
pub use Rattle.prost_reflect_wire.proofs.Deeper.{flat_fits, all_after, passes_in, all_append, all_filter, all_implied, source_allowed, value_records_allowed, element_allowed, elements_in_allowed, allows_append, message_in, numbered_two, levels_free, allowed_further, Agrees, element_agree, value_agree}
pub use Rattle.prost_reflect_wire.proofs.FieldFaults.{only_memory, value_no_fault}
pub use Rattle.prost_reflect_wire.proofs.KeyFronts.{short_key_front, key_once, key_no_fault}
pub use Rattle.prost_reflect_wire.proofs.ListTests.{beq_same, last_passes, filter_passes, passes_more, or_case}
pub use Rattle.prost_reflect_wire.proofs.Numbers.{Ascending, numbers_ascending, slots_same, table_same, table_covers, entries_ascending, slot_outside, is_in, not_in, Covers, eqb-sym, slot_table, insert_ascending, empty_slot, both_max, lower, in_insert}
pub use Rattle.prost_reflect_wire.proofs.PlaceFaults.{key_stands, end_stands, plain_stands, value_stands, stands_behind, key_stands_in_field, value_stands_in_field, value_stands_in_value}
pub use Rattle.prost_reflect_wire.proofs.PlainFronts.{plain_delimited, delimited_plain, delimited_cut, plain_once, plain_no_fault, delimited_once}
pub use Rattle.prost_reflect_wire.proofs.Reading.{spelled_read, one_reading, wire_small, wire_known, plain_read, varint_some}
pub use Rattle.prost_reflect_wire.proofs.RecordFronts.{record_front, first_front, none_front, key_shorter, payload_no_longer, last_front, record_parts, levels_first, field_front, plain_no_group, payload_once, RecordParts, first_parts, FrontParts}
pub use Rattle.prost_reflect_wire.proofs.Shortest.{short_spells, short_plain_ok, short_varint, short_key_ok}
pub use Rattle.prost_reflect_wire.proofs.Sound.{read_spells, bind_ok, plain_sound, guard_ok, Front}
pub use Rattle.prost_reflect_wire.proofs.Steps.{field_nothing, Joins, level_joins, flat_append, field_joins, surviving_value, value_all, unknowns_further, meaning_covers, map_append, meaning_same, nothing_joins, meaning_empty, meaning_steps, values_present, last_append, values_append, pairs_present, same_behind}
pub use Rattle.prost_reflect_wire.proofs.Survivors.{field_number, filter_append, filter_none, survive_none, after_cons, after_append}
pub use Rattle.prost_reflect_laws.specs.Examples.Instances.{sample, front, behind, one, needless, stores_defaults, Taken, Low, OfReading, OfMeaning, OfContents, OfWriting, OfFaults}
pub use Rattle.prost_reflect_laws.specs.Examples.Schemas.{my_message, older_message, message_without_bar, unpacked_list, packed_list, maps, maps_without_q, extended, no_fields, examples, field, list, int32, text, message_value_type, two_choices, text_at_one, optional_a, choices_without_a, required_a, plain_a, seven_a, signed_a, one_message, message_list, field_at_hundred, presence_map, choice, choices_moved, other_alone, closed_alone, older_closed, closed, open_alone, text_inside, member, maps_without_m, extended_choice}
pub use Rattle.prost_reflect_laws.specs.Examples.Words.{content, inner, int, hex, varint, Means, Writes, Sets, ascii, delimited}
pub use Rattle.prost_reflect_laws.specs.Laws.{ElementBack, block, ValueBack, EntriesBack, Writable, Apart, Spellable, ElementsBack, PairsBack, UnknownBack, PairBack, StaysWell}
pub use Rattle.prost_reflect_laws.specs.Reducing.{numbers_below, all_pairs, refined, greatest_reduction, is_reduced}
unfoldable pub use Rattle.prost_reflect_laws.specs.Reducing.{refined_times}
pub use Rattle.prost_reflect_laws.specs.ReducingExamples.{whole, less, other, WorkedReductions}
