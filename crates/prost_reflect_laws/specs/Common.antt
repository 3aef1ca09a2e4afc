-- The definitions that most laws cite, handed on from one place. Declares nothing.
pub use Rattle.std.specs.Prelude.{◌≡◌, true, false, [], ◌∷◌, pos, ◌≢◌, ℕ, ◌≤◌, ◌<◌, ◌^◌, negsuc, List, ◌++◌, length, Some, zero, suc, map, None, Bool, ◌+◌, ◌-◌, ◌*◌, not, filter, codes, nat_eq, nat_lt, if◌then◌else◌, ◌⊎◌, ◌↔◌, flat_map, ⊤, max, IsTrue}
pub use Rattle.prost_reflect_wire.specs.Content.{NoEntries, Stored, Unknown, MapValue, NoPairs, Pair, ContentOf, ScalarValue, MessageValue, ordered, Content, Entries, ListValue, NoValues, Pairs, entries_ordered, pairs_ordered, Value, Values, Item, entries_of, values_from, schema_of, type_of}
pub use Rattle.prost_reflect_wire.specs.Edit.{merged, clear_field, cleared, value_or_default, opened, set_at, edited, PathTo, holds_message}
pub use Rattle.prost_reflect_wire.specs.Fault.{StandsInMessage, StandsInField, StandsInValue, Place, Stands}
pub use Rattle.prost_reflect_wire.specs.Front.{FieldFront, RecordFront, ValueFront}
pub use Rattle.prost_reflect_wire.specs.Grammar.{accepts, LEVEL_LIMIT, Accepts, allows, element_payloads_in, is_stray, is_stray_entry, records_in, value_records, unknown_payloads}
pub use Rattle.prost_reflect_wire.specs.Levels.{levels}
pub use Rattle.prost_reflect_wire.specs.Meaning.{meaning, decoded, steps, MeansInside, element, entry_key, entry_value, field_value}
pub use Rattle.prost_reflect_wire.specs.Record.{record_at, Flat, Var, Records, NoRecords, PlainRecord, Record, Spells, body_of, valid, payload_valid, short_body, read, GroupRecord, Group, spelled, Fix64, Len, Fix32, raw_levels, payload_levels, Payload}
pub use Rattle.prost_reflect_wire.specs.Reduction.{Reduced, TypePairs, holds, types_match}
pub use Rattle.prost_reflect_wire.specs.Scalar.{I32, Int32, EnumNumber, ScalarKind, Enum, Closed, scalar_valid, elem, is_undeclared, I64, U32, Boolean, U64, BoolKind, Uint64, written, F32, F64, Text, Bytes, Double, Float, Int64, Fixed64, Fixed32, StringKind, BytesKind, Uint32, Sfixed32, Sfixed64, Sint32, Sint64, Open, zigzag, unzigzag, kind_default, Scalar}
pub use Rattle.prost_reflect_wire.specs.Schema.{ScalarOf, MessageOf, Singular, Repeated, MapFrom, schema_valid, field_valid, known, passes, Field, Schema, field_of, is_packable, Kind, GroupOf, ValueType, FieldForm, MessageType, is_sibling, message_type}
pub use Rattle.prost_reflect_wire.specs.Typing.{encodable, element_valid, value_valid, exclusive, filled, without_defaults, kept, Typed, Fitting, WellTyped, WellStored, is_whole_stray, is_of_type, elements_valid, has_value_of}
pub use Rattle.prost_reflect_wire.specs.Varint.{AreBytes, ◌>>=◌, Varint, short, varint_at}
pub use Rattle.prost_reflect_wire.specs.Writing.{records, encoded, relayed, is_default_of, value_payload, pair_payload, field_payloads}
pub use Rattle.prost_reflect_wire.specs.declared.error.DecodeError.{DecodeError}
