-- The names that most proofs cite, handed on from one place. Declares nothing.
pub use Rattle.std.specs.List.{list_any, list_all}
pub use Rattle.std.proofs.Common.{◌≡◌, ℕ, suc, zero, ◌+◌, ◌-◌, ◌^◌, ◌<◌, ◌≤◌, List, [], ◌∷◌, ◌++◌, length, drop, slice_index_or, sym, ap, ◌∙◌, arith, append_assoc, append-nil, length-append, refl, true, get_or, nat_lt, Fits, w8, Bool, false, cond, not, ◌||◌, ◌&&◌, map, filter, flat_map, nat_eq, nat_le, Option, Some, None, ap₂, true≢false, ◌↔◌, IsTrue, add-one, drop-cons, ◌≢◌, subst, inl, inr, ◌⊎◌, ◌*◌, max, take, ◌/◌, ◌%◌, div-lt_iff_lt-mul, lit≤, lt_of_lt_of_le, Result, Ok, Err, zero-add, lit<, is_ok, IfOk, Bor, IfErr, IsOkAnd, MatchResult, OnOk, vec_len, vec_capacity, set, rules}
pub use Rattle.std.proofs.Math.Nat.{pow-suc, pow-le-pow_right, mul-le-mul_left}
pub use Rattle.std.proofs.Math.Seq.{take-append_seam, drop-append_seam, take-suc, take-suc-set}
pub use Rattle.std.proofs.lemmas.Bool.{lt-ltb, ltb-true, and_parts, and_from, ne_eqb, eqb-true, leb-true, le-leb, ltb-false, eq-eqb, eqb-false, le-ltb, cases_lt, or_parts}
pub use Rattle.std.proofs.lemmas.List.{length-drop, length-map, length-take, take-append-drop, take_all, length-set, length-take-le}
pub use Rattle.std.proofs.lemmas.Result.{err_from_is_err_and}
pub use Rattle.prost_reflect_wire.specs.Blocks.{bytes_in}
pub use Rattle.prost_reflect_wire.specs.Buffer.{bytes_of, joined, Prepended}
pub use Rattle.prost_reflect_wire.specs.Content.{ContentOf, MessageValue, Pairs, NoPairs, values_from, Entries, NoEntries, Stored, Unknown, Value, Slot, value_at, unknowns_at, slot_at, then_unknowns, then_value, store, table, insert_number, numbers_in, Values, NoValues, Item, Pair, empty, ◌and_then◌, entries_of}
pub use Rattle.prost_reflect_wire.specs.Equality.{plain_eq, records_eq, records_same, records_refl, payload_eq, record_eq, field_eq, set_eq}
pub use Rattle.prost_reflect_wire.specs.Fault.{Place, OfNothing, field_at, same_wire, Next, NextField, Comes, Stands, Here, Behind, InMessage, InGroup, InUnknown, InEntry, InsideGroup, StandsInField, StandsInValue, opens_level, FieldPlace, ValueComes, ValueFault}
pub use Rattle.prost_reflect_wire.specs.Front.{KeyFront, RecordFront, GroupFront, PayloadFront, ValueFront, PlainFault, VarintFront, KeyFault, RecordsFront, PlainFront, DelimitedFront, LengthPasses, FieldFront, AreOpen, VarintEnds, VarintPasses, VarintFault}
pub use Rattle.prost_reflect_wire.specs.Grammar.{fits, payloads, has_number, numbered, body, records_in, or_none, element_payloads_in, is_stray, is_stray_entry, value_records, value_payloads, AllowsInside, is_len, is_group_payload, one_allowed, packed_allowed, in_entry_allowed, has_level, field_allowed, record_allowed, nothing_inside, last, unknown_payloads}
unfoldable pub use Rattle.prost_reflect_wire.specs.Grammar.{allows}
pub use Rattle.prost_reflect_wire.specs.Meaning.{record_numbers, after_last, survive, MeansInside, present_list, present_map, message_value, one_value, element, entry_key, entry_value, put, put_entry, put_entries, field_value, meaning_at, meaning_by, empty_inside, present, value_meaning, unknowns_meaning, JoinsInside, content_in, values_in, pairs_in, one_joined, value_joined, value_steps, value_behind, slot_step, step_by, steps_by, joins_nothing}
unfoldable pub use Rattle.prost_reflect_wire.specs.Meaning.{meaning, steps}
pub use Rattle.prost_reflect_wire.specs.Record.{Record, Records, Payload, Flat, Group, items, before, body_of, payload_levels, record_at, Var, Fix64, Len, Fix32, NoRecords, PlainRecord, GroupRecord, payload_wire, short_key, raw_levels, key_at, wire_code, Plain, plain_wire, plain_at, Key, wire_of, SpellsPlain, Spells, Body, body_at, after_key, close, short_plain, short_body, number_valid, plain_valid, valid, short_payload, spelled, payload_valid}
unfoldable pub use Rattle.prost_reflect_wire.specs.Record.{read}
pub use Rattle.prost_reflect_wire.specs.Schema.{Kind, ScalarOf, MessageOf, GroupOf, ValueType, FieldForm, Singular, Repeated, MapFrom, Field, Schema, known, field_of, is_sibling, passes, same_oneof}
pub use Rattle.prost_reflect_wire.specs.Unknown.{unknown_record, records_of, unknown_fields_of, SkipsValue, SkipsGroup, value_step, field_step, set_step, payload_of}
pub use Rattle.prost_reflect_wire.specs.Varint.{AreBytes, are_bytes, ◌>>=◌, Varint, AreDigits, digits_value, digits_at, varint_at, guard, front_at, short_within}
unfoldable pub use Rattle.prost_reflect_wire.specs.Varint.{short}
pub use Rattle.prost_reflect_wire.specs.declared.error.DecodeError.{DecodeError}
pub use Rattle.prost_reflect_wire.specs.declared.error.EncodeError.{EncodeError}
pub use Rattle.prost_reflect_wire.specs.declared.key.WireType.{WireType}
pub use Rattle.prost_reflect_wire.specs.declared.unknown.UnknownFieldValue.{SixtyFourBit, ThirtyTwoBit, LengthDelimited, UnknownFieldValue}
