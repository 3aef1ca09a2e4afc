-- Varints, zigzag, and the payload of each kind (the encoding guide, "Base 128 Varints", "More Integer Types", "Non-varint Numbers").
use Rattle.std.specs.Prelude.{◌≡◌, ◌∷◌}
use Rattle.prost_reflect_laws.specs.Common.{true, false, pos, negsuc, [], map, Some, None, Varint, short, varint_at, Var, Fix64, Len, Fix32, Flat, Boolean, I32, I64, U32, U64, F32, F64, Text, Bytes, EnumNumber, Double, Float, Int64, Uint64, Int32, Fixed64, Fixed32, BoolKind, StringKind, BytesKind, Uint32, Sfixed32, Sfixed64, Sint32, Sint64, Enum, Open, Closed, elem, written, zigzag, unzigzag, kind_default, scalar_valid, NoEntries, Stored, ScalarValue}
use Rattle.prost_reflect_laws.specs.Examples.Schemas.{plain}
use Rattle.prost_reflect_laws.specs.Examples.Words.{hex, varint, Becomes, Reads}

pub record Varints : Type 0 where
  -- 0 takes one byte.
  pub zero_short : short 0 ≡ hex "00"
  -- So does 127, the greatest of one byte.
  pub one_byte_short : short 127 ≡ hex "7f"
  -- 128 takes two.
  pub two_bytes_short : short 128 ≡ hex "8001"
  -- 150, the low seven bits first.
  pub guide_short : short 150 ≡ hex "9601"
  -- 2^32 takes five.
  pub five_bytes_short : short 4294967296 ≡ hex "8080808010"
  -- The greatest number, 2^64 - 1, takes ten.
  pub greatest_short : short 18446744073709551615 ≡ hex "ffffffffffffffffff01"
  -- It is read back.
  pub greatest_read : varint_at (hex "ffffffffffffffffff01") ≡ Some (18446744073709551615, [])
  -- What follows a varint is left.
  pub rest_left : varint_at (hex "9601 07") ≡ Some (150, hex "07")
  -- 3 with a needless zero digit is spelled too, and read as 3.
  pub needless_spelled : Varint 3 (hex "8300")
  -- It is read as 3.
  pub needless_read : varint_at (hex "8300") ≡ Some (3, [])
  -- 0 with nine needless zero digits is read as 0.
  pub most_needless_read : varint_at (hex "80808080808080808000") ≡ Some (0, [])
  -- With ten it is no varint.
  pub eleven_bytes_refused : varint_at (hex "8080808080808080808000") ≡ None
  -- A tenth byte above 1 passes 64 bits.
  pub tenth_above_refused : varint_at (hex "ffffffffffffffffff02") ≡ None
  -- A varint without an end.
  pub cut_refused : varint_at (hex "96") ≡ None

pub record Zigzag : Type 0 where
  -- 0, -1, 1, -2 are written as 0, 1, 2, 3.
  pub written : map zigzag (pos 0 ∷ negsuc 0 ∷ pos 1 ∷ negsuc 1 ∷ []) ≡ (0 ∷ 1 ∷ 2 ∷ 3 ∷ [])
  -- And read back.
  pub read : map unzigzag (0 ∷ 1 ∷ 2 ∷ 3 ∷ []) ≡ (pos 0 ∷ negsuc 0 ∷ pos 1 ∷ negsuc 1 ∷ [])
  -- The greatest number of 32 bits.
  pub greatest_32 : zigzag (pos 2147483647) ≡ 4294967294
  -- The least.
  pub least_32 : zigzag (negsuc 2147483647) ≡ 4294967295
  -- The least number of 64 bits.
  pub least_64 : unzigzag 18446744073709551615 ≡ negsuc 9223372036854775807

pub record Kinds : Type 0 where
  -- An int32 is the low 32 bits of its varint.
  pub int32_read : elem Int32 (varint 4294967295) ≡ Some (I32 (negsuc 0))
  -- Higher bits are not looked at.
  pub int32_low : elem Int32 (varint 4294967301) ≡ Some (I32 (pos 5))
  -- -1 is written with all 64 bits.
  pub int32_written : written Int32 (I32 (negsuc 0)) ≡ Var 18446744073709551615
  -- An int64 is all 64 bits: 2^63 is the least number.
  pub int64_least : elem Int64 (varint 9223372036854775808) ≡ Some (I64 (negsuc 9223372036854775807))
  -- It is written so.
  pub int64_written : written Int64 (I64 (negsuc 9223372036854775807)) ≡ Var 9223372036854775808
  -- 2^63 - 1 is the greatest.
  pub int64_greatest : elem Int64 (varint 9223372036854775807) ≡ Some (I64 (pos 9223372036854775807))
  -- A uint32 is the low 32 bits.
  pub uint32_low : elem Uint32 (varint 4294967301) ≡ Some (U32 5)
  -- A uint64 is all 64.
  pub uint64_greatest : elem Uint64 (varint 18446744073709551615) ≡ Some (U64 18446744073709551615)
  -- A sint32 is the low 32 bits in zigzag.
  pub sint32_low : elem Sint32 (varint 4294967297) ≡ Some (I32 (negsuc 0))
  -- -1 is written as 1.
  pub sint32_written : written Sint32 (I32 (negsuc 0)) ≡ Var 1
  -- A sint64 is all 64.
  pub sint64_least : elem Sint64 (varint 18446744073709551615) ≡ Some (I64 (negsuc 9223372036854775807))
  -- A bool is true for each number but 0.
  pub bool_read : elem BoolKind (varint 2) ≡ Some (Boolean true)
  -- True is written as 1.
  pub bool_written : written BoolKind (Boolean true) ≡ Var 1
  -- 0 is false.
  pub false_read : elem BoolKind (varint 0) ≡ Some (Boolean false)
  -- Fixed widths are little endian.
  pub fixed32_read : elem Fixed32 (Flat (Fix32 (hex "78563412"))) ≡ Some (U32 0x12345678)
  -- Written alike.
  pub fixed32_written : written Fixed32 (U32 0x12345678) ≡ Fix32 (hex "78563412")
  -- A fixed64 is all eight bytes.
  pub fixed64_read : elem Fixed64 (Flat (Fix64 (hex "efcdab9078563412"))) ≡ Some (U64 0x1234567890abcdef)
  -- The greatest fixed64.
  pub fixed64_greatest : written Fixed64 (U64 18446744073709551615) ≡ Fix64 (hex "ffffffffffffffff")
  -- A sfixed32 is signed.
  pub sfixed32_read : elem Sfixed32 (Flat (Fix32 (hex "feffffff"))) ≡ Some (I32 (negsuc 1))
  -- Written alike.
  pub sfixed32_written : written Sfixed32 (I32 (negsuc 1)) ≡ Fix32 (hex "feffffff")
  -- A sfixed64 is signed.
  pub sfixed64_read : elem Sfixed64 (Flat (Fix64 (hex "feffffffffffffff"))) ≡ Some (I64 (negsuc 1))
  -- Written alike.
  pub sfixed64_written : written Sfixed64 (I64 (negsuc 1)) ≡ Fix64 (hex "feffffffffffffff")
  -- A float is its bits.
  pub float_read : elem Float (Flat (Fix32 (hex "cdcc0c40"))) ≡ Some (F32 0x400ccccd)
  -- A double is its bits.
  pub double_read : elem Double (Flat (Fix64 (hex "9a9999999999f13f"))) ≡ Some (F64 0x3ff199999999999a)
  -- A string is UTF-8.
  pub string_read : elem StringKind (Flat (Len (hex "c3a9"))) ≡ Some (Text (hex "c3a9"))
  -- What is no UTF-8 is no string.
  pub string_refused : elem StringKind (Flat (Len (hex "ff"))) ≡ None
  -- Bytes are any bytes.
  pub bytes_read : elem BytesKind (Flat (Len (hex "ff"))) ≡ Some (Bytes (hex "ff"))
  -- An enum's number is the low 32 bits, signed; the fields' closed enum is asked elsewhere.
  pub enum_read : elem (Enum (pos 0) Open) (varint 4294967295) ≡ Some (EnumNumber (negsuc 0))
  -- A negative one is written with all 64 bits.
  pub enum_written : written (Enum (pos 0) Open) (EnumNumber (negsuc 0)) ≡ Var 18446744073709551615
  -- A kind takes its own wire type alone.
  pub other_wire_type : elem Int32 (Flat (Fix32 (hex "05000000"))) ≡ None
  -- An enum's default is its first value.
  pub enum_default : kind_default (Enum (pos 1) (Closed (pos 1 ∷ pos 0 ∷ []))) ≡ EnumNumber (pos 1)

pub record KindRanges : Type 0 where
  -- 2^31 is no int32.
  pub int32_above : scalar_valid Int32 (I32 (pos 2147483648)) ≡ false
  -- -2^31 is one.
  pub int32_least : scalar_valid Int32 (I32 (negsuc 2147483647)) ≡ true
  -- 2^64 is no uint64.
  pub uint64_above : scalar_valid Uint64 (U64 18446744073709551616) ≡ false
  -- A uint64 in the place of a uint32, though the number is in its range.
  pub other_variant : scalar_valid Uint32 (U64 5) ≡ false
  -- A string that is no UTF-8.
  pub bad_text : scalar_valid StringKind (Text (hex "ff")) ≡ false
  -- A closed enum takes no number that it does not declare.
  pub undeclared : scalar_valid (Enum (pos 0) (Closed (pos 0 ∷ []))) (EnumNumber (pos 7)) ≡ false
  -- It takes one that it declares.
  pub declared : scalar_valid (Enum (pos 0) (Closed (pos 0 ∷ []))) (EnumNumber (pos 0)) ≡ true
  -- An open enum takes each number.
  pub open_number : scalar_valid (Enum (pos 0) Open) (EnumNumber (pos 7)) ≡ true

pub record PlainFields : Type 0 where
  -- A float's -0.0 is not its default, and is written.
  pub negative_zero : Reads plain "1500000080" (Stored 2 (ScalarValue (F32 2147483648)) NoEntries) "1500000080"
  -- 0.0 is the default, and is not.
  pub float_zero : Reads plain "1500000000" NoEntries ""
  -- A field of each width, given in descending number, is written in ascending number.
  pub widths : Becomes plain "9001 01 4a 01 61 31 0000000001000000 09 0000000000000080" "09 0000000000000080 31 0000000001000000 4a 01 61 9001 01"
