-- Written defaults of each kind, and texts that are refused (the proto2 guide, "Default Field Values"; descriptor.proto, `default_value`).
use Rattle.std.specs.Prelude.{◌≡◌, ℕ, pos, negsuc, true, false, List, [], ◌∷◌, Option, Some, None, codes}
use Rattle.prost_reflect_wire.specs.Scalar.{Scalar, Boolean, I32, I64, U32, U64, F32, F64, Text, Bytes, EnumNumber, Double, Float, Int64, Uint64, Int32, Fixed64, Fixed32, BoolKind, StringKind, BytesKind, Uint32, Sfixed32, Sfixed64, Sint32, Sint64, Enum, Open, ScalarKind}
use Rattle.prost_reflect_tables.specs.Rows.{EnumValueRow}
use Rattle.prost_reflect_tables.specs.Examples.{named}
use Rattle.prost_reflect_tables.specs.WrittenDefaults.{written_default}

-- enum { ONE = 1; UNO = 1; MINUS = -2; ONE_AGAIN = 7; }, with a second value of the name UNO.
abbrev pub values : List EnumValueRow
values =
    record { id = named (codes "ONE"); number = pos 1 }
    ∷ record { id = named (codes "UNO"); number = pos 1 }
    ∷ record { id = named (codes "MINUS"); number = negsuc 1 }
    ∷ record { id = named (codes "UNO"); number = pos 7 }
    ∷ []

abbrev pub default : ScalarKind → List ℕ → Option Scalar
default kind text = written_default kind values text

-- A backslash, and a text behind it.
abbrev pub backslash : List ℕ → List ℕ
backslash text = 92 ∷ text

pub record Integers : Type 0 where
  -- Each kind of integer.
  pub int32 : default Int32 (codes "150") ≡ Some (I32 (pos 150))
  pub sint32 : default Sint32 (codes "-150") ≡ Some (I32 (negsuc 149))
  pub sfixed32 : default Sfixed32 (codes "7") ≡ Some (I32 (pos 7))
  pub int64 : default Int64 (codes "-1") ≡ Some (I64 (negsuc 0))
  pub sint64 : default Sint64 (codes "150") ≡ Some (I64 (pos 150))
  pub sfixed64 : default Sfixed64 (codes "-7") ≡ Some (I64 (negsuc 6))
  pub uint32 : default Uint32 (codes "150") ≡ Some (U32 150)
  pub fixed32 : default Fixed32 (codes "0") ≡ Some (U32 0)
  pub uint64 : default Uint64 (codes "150") ≡ Some (U64 150)
  pub fixed64 : default Fixed64 (codes "7") ≡ Some (U64 7)
  -- Zeros in front.
  pub zeros : default Int32 (codes "00012") ≡ Some (I32 (pos 12))
  -- A zero of a signed kind may have a `-`.
  pub minus_zero : default Int32 (codes "-0") ≡ Some (I32 (pos 0))
  -- The ends of each range.
  pub greatest_i32 : default Int32 (codes "2147483647") ≡ Some (I32 (pos 2147483647))
  pub least_i32 : default Sint32 (codes "-2147483648") ≡ Some (I32 (negsuc 2147483647))
  pub greatest_i64 : default Sint64 (codes "9223372036854775807") ≡ Some (I64 (pos 9223372036854775807))
  pub least_i64 : default Int64 (codes "-9223372036854775808") ≡ Some (I64 (negsuc 9223372036854775807))
  pub greatest_u32 : default Fixed32 (codes "4294967295") ≡ Some (U32 4294967295)
  pub greatest_u64 : default Uint64 (codes "18446744073709551615") ≡ Some (U64 18446744073709551615)

pub record NoIntegers : Type 0 where
  -- One past each range.
  pub above_i32 : default Int32 (codes "2147483648") ≡ None
  pub below_i32 : default Sfixed32 (codes "-2147483649") ≡ None
  pub above_i64 : default Sfixed64 (codes "9223372036854775808") ≡ None
  pub below_i64 : default Int64 (codes "-9223372036854775809") ≡ None
  pub above_u32 : default Uint32 (codes "4294967296") ≡ None
  pub above_u64 : default Fixed64 (codes "18446744073709551616") ≡ None
  -- No digit.
  pub nothing : default Int32 [] ≡ None
  pub lone_minus : default Int32 (codes "-") ≡ None
  pub unsigned_nothing : default Uint64 [] ≡ None
  -- A `+`, a `-` of an unsigned kind, two of them, a space, another base, a fraction, an exponent.
  pub plus : default Int32 (codes "+1") ≡ None
  pub unsigned_minus : default Uint32 (codes "-0") ≡ None
  pub two_minus : default Int32 (codes "--1") ≡ None
  pub space : default Int64 (codes " 1") ≡ None
  pub hexadecimal : default Int32 (codes "0x10") ≡ None
  pub fraction : default Int32 (codes "1.0") ≡ None
  pub exponent : default Uint32 (codes "1e3") ≡ None

pub record Floats : Type 0 where
  pub one : default Float (codes "1") ≡ Some (F32 0x3f800000)
  pub two : default Float (codes "2") ≡ Some (F32 0x40000000)
  pub hundred : default Float (codes "100") ≡ Some (F32 0x42c80000)
  -- The greatest odd number that is exact, and the greatest number that is read.
  pub odd : default Float (codes "16777215") ≡ Some (F32 0x4b7fffff)
  pub greatest : default Float (codes "16777216") ≡ Some (F32 0x4b800000)
  pub greatest_double : default Double (codes "9007199254740992") ≡ Some (F64 0x4340000000000000)
  pub odd_double : default Double (codes "9007199254740991") ≡ Some (F64 0x433fffffffffffff)
  pub one_double : default Double (codes "1") ≡ Some (F64 0x3ff0000000000000)
  pub ten_double : default Double (codes "-10") ≡ Some (F64 0xc024000000000000)
  -- A `-` is the top bit, of zero too.
  pub minus_one : default Float (codes "-1") ≡ Some (F32 0xbf800000)
  pub zero_bits : default Float (codes "0") ≡ Some (F32 0)
  pub minus_zero : default Float (codes "-0") ≡ Some (F32 0x80000000)
  pub minus_zero_double : default Double (codes "-0") ≡ Some (F64 0x8000000000000000)
  pub zeros : default Double (codes "0001") ≡ Some (F64 0x3ff0000000000000)
  -- Infinities, and what is no number.
  pub infinity : default Float (codes "inf") ≡ Some (F32 0x7f800000)
  pub minus_infinity : default Float (codes "-inf") ≡ Some (F32 0xff800000)
  pub nan : default Float (codes "nan") ≡ Some (F32 0x7fc00000)
  pub infinity_double : default Double (codes "inf") ≡ Some (F64 0x7ff0000000000000)
  pub minus_infinity_double : default Double (codes "-inf") ≡ Some (F64 0xfff0000000000000)
  pub nan_double : default Double (codes "nan") ≡ Some (F64 0x7ff8000000000000)

pub record NoFloats : Type 0 where
  -- Numbers past those that are exact.
  pub past_float : default Float (codes "16777217") ≡ None
  pub past_minus : default Float (codes "-16777217") ≡ None
  pub past_double : default Double (codes "9007199254740993") ≡ None
  -- Fractions and exponents are not read.
  pub fraction : default Float (codes "1.5") ≡ None
  pub whole_fraction : default Double (codes "1.0") ≡ None
  pub exponent : default Double (codes "1e3") ≡ None
  -- Other spellings.
  pub minus_nan : default Float (codes "-nan") ≡ None
  pub capitals : default Double (codes "Inf") ≡ None
  pub long : default Double (codes "infinity") ≡ None
  pub plus : default Float (codes "+1") ≡ None
  pub nothing : default Double [] ≡ None
  pub lone_minus : default Float (codes "-") ≡ None

pub record Others : Type 0 where
  pub yes : default BoolKind (codes "true") ≡ Some (Boolean true)
  pub no : default BoolKind (codes "false") ≡ Some (Boolean false)
  -- A string is the text as it stands.
  pub text : default StringKind (backslash (codes "n")) ≡ Some (Text (backslash (codes "n")))
  pub empty_text : default StringKind [] ≡ Some (Text [])
  -- An enum has the number of its first value of the name.
  pub named : default (Enum (pos 1) Open) (codes "MINUS") ≡ Some (EnumNumber (negsuc 1))
  pub first_named : default (Enum (pos 1) Open) (codes "UNO") ≡ Some (EnumNumber (pos 1))

pub record NoOthers : Type 0 where
  pub number : default BoolKind (codes "1") ≡ None
  pub capitals : default BoolKind (codes "True") ≡ None
  pub nothing : default BoolKind [] ≡ None
  pub no_value : default (Enum (pos 1) Open) (codes "TWO") ≡ None
  pub number_of_value : default (Enum (pos 1) Open) (codes "1") ≡ None

pub record Escapes : Type 0 where
  pub plain_bytes : default BytesKind (codes "abc") ≡ Some (Bytes (codes "abc"))
  pub no_bytes : default BytesKind [] ≡ Some (Bytes [])
  -- A byte behind 127 stands for itself.
  pub high : default BytesKind (0xc3 ∷ 0xa4 ∷ []) ≡ Some (Bytes (0xc3 ∷ 0xa4 ∷ []))
  -- Letters and signs.
  pub newline : default BytesKind (backslash (codes "n")) ≡ Some (Bytes (10 ∷ []))
  pub carriage_return : default BytesKind (backslash (codes "r")) ≡ Some (Bytes (13 ∷ []))
  pub tabulator : default BytesKind (backslash (codes "t")) ≡ Some (Bytes (9 ∷ []))
  pub double_quote : default BytesKind (backslash (34 ∷ [])) ≡ Some (Bytes (34 ∷ []))
  pub single_quote : default BytesKind (backslash (39 ∷ [])) ≡ Some (Bytes (39 ∷ []))
  pub one_backslash : default BytesKind (backslash (backslash [])) ≡ Some (Bytes (92 ∷ []))
  -- One to three octal digits, as many as stand there.
  pub one_digit : default BytesKind (backslash (codes "7")) ≡ Some (Bytes (7 ∷ []))
  pub two_digits : default BytesKind (backslash (codes "128")) ≡ Some (Bytes (10 ∷ 56 ∷ []))
  pub three_digits : default BytesKind (backslash (codes "1012")) ≡ Some (Bytes (65 ∷ 50 ∷ []))
  pub greatest : default BytesKind (backslash (codes "377")) ≡ Some (Bytes (255 ∷ []))
  pub zero_digit : default BytesKind (backslash (codes "0")) ≡ Some (Bytes (0 ∷ []))
  -- Escapes among others.
  pub mixed : default BytesKind (97 ∷ backslash (48 ∷ backslash (110 ∷ 98 ∷ []))) ≡ Some (Bytes (97 ∷ 0 ∷ 10 ∷ 98 ∷ []))

pub record NoEscapes : Type 0 where
  -- No byte.
  pub past_byte : default BytesKind (backslash (codes "400")) ≡ None
  pub greatest_digits : default BytesKind (backslash (codes "777")) ≡ None
  -- Neither an octal digit nor one of the letters.
  pub eight : default BytesKind (backslash (codes "8")) ≡ None
  pub hexadecimal : default BytesKind (backslash (codes "x41")) ≡ None
  pub bell : default BytesKind (backslash (codes "a")) ≡ None
  -- A lone backslash at the end.
  pub lone : default BytesKind (97 ∷ backslash []) ≡ None
