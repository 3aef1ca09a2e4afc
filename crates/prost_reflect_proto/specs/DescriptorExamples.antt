-- The records of a descriptor set (descriptor.proto of Protocol Buffers; the encoding guide, "Last One Wins", "Packed Repeated Fields" and "Submessages").
use Prim.Native.String.{String}
use Rattle.std.specs.Prelude.{◌≡◌, ℕ, true, List, [], ◌∷◌, map, option_map, Option, Some, None}
use Rattle.prost_reflect_wire.specs.Scalar.{Boolean, Bytes}
use Rattle.prost_reflect_wire.specs.Schema.{schema_valid}
use Rattle.prost_reflect_wire.specs.Content.{Content, Value, ScalarValue, MessageValue}
use Rattle.prost_reflect_wire.specs.Grammar.{LEVEL_LIMIT}
use Rattle.prost_reflect_wire.specs.Writing.{encoded}
use Rattle.prost_reflect_types.specs.DescriptorTable.{record_schema, record_types, type_place}
use Rattle.prost_reflect_types.specs.DescriptorMeaning.{record_decoded}
use Rattle.prost_reflect_types.specs.DescriptorViews.{record_content}
use Rattle.prost_reflect_laws.specs.Examples.Words.{hex, nested, int, minus_one, ascii, list_of}
use Rattle.prost_reflect_types.specs.declared.table.RecordType.{RecordType}
use Rattle.prost_reflect_types.specs.declared.table.RecordType.TheVariants as types

abbrev pub text : String → Option Value
text characters = Some (ScalarValue (ascii characters))

abbrev pub flag : Option Value
flag = Some (ScalarValue (Boolean true))

-- Raw bytes, in hex.
abbrev pub raw : String → Option Value
raw digits = Some (list_of (ScalarValue (Bytes (hex digits)) ∷ []))

abbrev pub list : List Value → Option Value
list vs = Some (list_of vs)

abbrev pub records : List Content → Option Value
records contents = list (map MessageValue contents)

-- The bytes mean a record of these fields, which is written as the others.
abbrev pub Reads : RecordType → String → List (ℕ × Option Value) → String → Type 0
Reads t bytes slots again = (record_decoded LEVEL_LIMIT t (hex bytes) ≡ Some (record_content t slots))
    × (encoded (record_content t slots) ≡ hex again)

abbrev pub Refused : RecordType → String → Type 0
Refused t bytes = record_decoded LEVEL_LIMIT t (hex bytes) ≡ None

pub record Descriptors : Type 0 where
  -- The types stand at their places.
  pub places : map type_place record_types ≡ 0 ∷ 1 ∷ 2 ∷ 3 ∷ 4 ∷ 5 ∷ 6 ∷ 7 ∷ 8 ∷ 9 ∷ 10 ∷ 11 ∷ []
  -- The table gives a schema as a checked pool's.
  pub checked : schema_valid record_schema ≡ true
  -- No bytes are an empty record.
  pub nothing : Reads types.File "" [] ""
  -- Options in two records join.
  pub options_join : Reads types.File "0a0161 42021001 42022001" ((1, text "a") ∷ (8, raw "10012001") ∷ []) "0a0161 420410012001"
  -- Options that are empty are there.
  pub options_empty : Reads types.File "4200" ((8, raw "") ∷ []) "4200"
  -- A record of number 14 is dropped.
  pub unknown_dropped : Reads types.File "0a0161 7001" ((1, text "a") ∷ []) "0a0161"
  -- So is a group of number 13, with all in it.
  pub unknown_group : Reads types.File "6b 0a01ff 6c 0a0161" ((1, text "a") ∷ []) "0a0161"
  -- And one within a message.
  pub unknown_inside : Reads types.File "22 05 0a0161 7001" ((4, records (record_content types.Message ((1, text "a") ∷ []) ∷ [])) ∷ []) "22 03 0a0161"
  -- Packed public dependencies 0 and 1 are written one by one.
  pub packed : Reads types.File "0a0161 52020001" ((1, text "a") ∷ (10, list (int 0 ∷ int 1 ∷ [])) ∷ []) "0a0161 5000 5001"
  -- Packed and single ones join.
  pub mixed : Reads types.File "5005 52020001 5007" ((10, list (int 5 ∷ int 0 ∷ int 1 ∷ int 7 ∷ [])) ∷ []) "5005 5000 5001 5007"
  -- A name that is given twice is the last one.
  pub last_name : Reads types.File "0a0161 0a0162" ((1, text "b") ∷ []) "0a0162"
  -- An empty text is there.
  pub empty_text : Reads types.File "1200" ((2, text "") ∷ []) "1200"
  -- Numbers ascend in what is written.
  pub ascending : Reads types.File "6206 70726f746f33 0a0161" ((1, text "a") ∷ (12, text "proto3") ∷ []) "0a0161 6206 70726f746f33"
  -- An int32 in ten bytes.
  pub ten_bytes : Reads types.EnumValue "10ffffffffffffffffff01" ((2, Some minus_one) ∷ []) "10ffffffffffffffffff01"
  -- Each further record of a list is an element of its own; here two messages, the second with a message inside.
  pub elements : Reads types.File "22030a0161 22051a030a0162"
      ((4, records (record_content types.Message ((1, text "a") ∷ []) ∷ record_content types.Message ((3, records (record_content types.Message ((1, text "b") ∷ []) ∷ [])) ∷ []) ∷ [])) ∷ [])
      "22030a0161 22051a030a0162"
  -- A bool, under number 17.
  pub optional_flag : Reads types.Field "0a0161 880101" ((1, text "a") ∷ (17, flag) ∷ []) "0a0161 880101"
  -- A name that isn't UTF-8 is refused,
  pub bad_text : Refused types.File "0a01ff"
  -- also in an element,
  pub bad_text_inside : Refused types.FileSet "0a030a01ff"
  -- and a name that is a number,
  pub wire_type : Refused types.File "0801"
  -- options that are a number,
  pub raw_wire_type : Refused types.File "4001"
  -- and a text that is cut short.
  pub cut : Refused types.File "0a0261"
  -- A message in 100 others is read, and in 101 it is refused.
  pub levels : option_map encoded (record_decoded LEVEL_LIMIT types.Message (nested 100 [])) ≡ Some (nested 100 [])
  pub levels_past : record_decoded LEVEL_LIMIT types.Message (nested 101 []) ≡ None
