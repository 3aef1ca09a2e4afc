-- The names that most proofs cite, handed on from one place. Declares nothing.
pub use Rattle.std.specs.Bool.{⊤}
pub use Rattle.std.specs.List.{AllZip}
pub use Rattle.std.specs.Option.{option_eq}
pub use Rattle.std.specs.declared.alloc.Global.{Global}
pub use Rattle.std.proofs.Common.{Bool, Err, IfOk, IsTrue, List, None, Ok, Option, Result, Some, String, Vec, [], ap, ap₂, arith, cond, false, get_or, length, map, nat_eq, not, option_map, refl, rules, string_bytes, suc, sym, take, true, true≢false, zero, ℕ, ℤ, ◌∙◌}
pub use Rattle.std.proofs.lemmas.Bool.{and_from, and_parts, eq-eqb, eqb-true}
pub use Rattle.std.proofs.lemmas.List.{take_all}
pub use Rattle.std.proofs.lemmas.Option.{none-some, same_Some}
pub use Rattle.std.proofs.lemmas.Result.{MatchResult-weaker}
pub use Rattle.prost_reflect_wire.specs.Content.{Content, ContentOf, Entries, Item, ListValue, MessageValue, NoValues, ScalarValue, Value, entries_of, then_value, value_at, values_from}
pub use Rattle.prost_reflect_wire.specs.Grammar.{Accepts}
unfoldable pub use Rattle.prost_reflect_wire.specs.Grammar.{allows}
pub use Rattle.prost_reflect_wire.specs.Meaning.{present_list}
unfoldable pub use Rattle.prost_reflect_wire.specs.Meaning.{meaning}
pub use Rattle.prost_reflect_wire.specs.Record.{Records, items}
unfoldable pub use Rattle.prost_reflect_wire.specs.Record.{read}
pub use Rattle.prost_reflect_wire.specs.Scalar.{Boolean, Bytes, I32, Text}
pub use Rattle.prost_reflect_wire.specs.Varint.{AreBytes, guard, ◌>>=◌}
pub use Rattle.prost_reflect_wire.proofs.Sound.{bind_ok, guard_ok, read_spells}
pub use Rattle.prost_reflect_types.specs.DescriptorMeaning.{gathered, record_decoded}
pub use Rattle.prost_reflect_types.specs.DescriptorTable.{type_place}
unfoldable pub use Rattle.prost_reflect_types.specs.DescriptorTable.{record_schema}
pub use Rattle.prost_reflect_types.specs.DescriptorViews.{entries_from, message_step, of_enum, of_enum_reserved_range, of_enum_value, of_extension_range, of_field, of_file, of_message, of_method, of_oneof, of_reserved_range, of_service, record_content}
unfoldable pub use Rattle.prost_reflect_types.specs.DescriptorViews.{of_bytes, of_flag, of_number, of_numbers, of_records, of_text, of_texts}
pub use Rattle.prost_reflect_types.specs.declared.DescriptorProto.{DescriptorProto}
pub use Rattle.prost_reflect_types.specs.declared.DescriptorProto.TheViews.{out-DescriptorProto, roll-DescriptorProto}
pub use Rattle.prost_reflect_types.specs.declared.table.RecordType.{RecordType}
