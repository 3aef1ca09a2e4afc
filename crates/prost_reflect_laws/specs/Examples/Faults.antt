-- Faults that bytes have: each of the named errors, and each way to a further place.
use Rattle.prost_reflect_laws.specs.Common.{[], LEVEL_LIMIT, StandsInMessage, StandsInField}
use Rattle.prost_reflect_laws.specs.Examples.Schemas.{examples, my_message, packed_list, maps, groups, text_at_one}
use Rattle.prost_reflect_laws.specs.Examples.Words.{hex}
use Rattle.prost_reflect_wire.specs.declared.error.DecodeError.TheVariants as errors

pub record Faults : Type 0 where
  -- The bytes end inside a varint.
  pub varint_ends : StandsInMessage examples my_message LEVEL_LIMIT errors.Truncated (hex "0896")
  -- They end inside an element of a packed record.
  pub element_ends : StandsInMessage examples packed_list LEVEL_LIMIT errors.Truncated (hex "0a0180")
  -- Behind an element.
  pub second_element_ends : StandsInMessage examples packed_list LEVEL_LIMIT errors.Truncated (hex "0a020180")
  -- A tenth byte above 1.
  pub varint_passes : StandsInMessage examples my_message LEVEL_LIMIT errors.Varint (hex "08ffffffffffffffffff02")
  -- No key: number 0.
  pub number_zero : StandsInMessage examples my_message LEVEL_LIMIT errors.Key (hex "00")
  -- No key: wire type 6.
  pub wire_type_six : StandsInMessage examples my_message LEVEL_LIMIT errors.Key (hex "0e")
  -- A varint where a message is known.
  pub message_as_varint : StandsInMessage examples my_message LEVEL_LIMIT errors.WireType (hex "1800")
  -- The same behind a record.
  pub behind_a_record : StandsInMessage examples my_message LEVEL_LIMIT errors.WireType (hex "08011800")
  -- An entry's key that is a varint where a text is known.
  pub entry_key : StandsInMessage examples maps LEVEL_LIMIT errors.WireType (hex "0a020801")
  -- An end key where no group is open.
  pub end_alone : StandsInMessage examples my_message LEVEL_LIMIT errors.EndGroup (hex "0c")
  -- An end key of another number.
  pub other_end : StandsInMessage examples groups LEVEL_LIMIT errors.EndGroup (hex "0b080114")
  -- A group without its end.
  pub group_unended : StandsInMessage examples my_message LEVEL_LIMIT errors.Truncated (hex "2b")
  -- A text that is no UTF-8.
  pub bad_text : StandsInMessage examples text_at_one LEVEL_LIMIT errors.Utf8 (hex "0a01ff")
  -- A key of a map that is no UTF-8.
  pub bad_key : StandsInMessage examples maps LEVEL_LIMIT errors.Utf8 (hex "0a030a01ff")
  -- A group where no level is left.
  pub past_last_level : StandsInMessage examples my_message 0 errors.Depth (hex "2b2c")
  -- In a message, whose level is the last.
  pub past_last_level_inside : StandsInMessage examples my_message 1 errors.Depth (hex "1a022b2c")
  -- A map record of messages where no level is left.
  pub message_map_past : StandsInMessage examples maps 0 errors.Depth (hex "1200")
  -- An unknown field without a byte.
  pub field_without_a_byte : StandsInField LEVEL_LIMIT errors.Truncated []
