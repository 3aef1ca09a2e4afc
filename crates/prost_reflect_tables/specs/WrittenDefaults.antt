-- The default that a field's definition writes as text (descriptor.proto, `default_value`; the proto2 guide, "Default Field Values"). A text that gives no value is refused.
use Rattle.std.specs.Prelude.{ℕ, zero, suc, ◌+◌, ◌-◌, ◌*◌, ◌/◌, ◌^◌, nat_eq, nat_le, if◌then◌else◌, Bool, true, false, ◌&&◌, ◌||◌, ℤ, pos, neg_ℤ, List, [], ◌∷◌, length, Option, Some, None, option_map, option_and_then, find, bytes_eq, codes}
use Rattle.prost_reflect_wire.specs.Scalar.{Scalar, Boolean, I32, I64, U32, U64, F32, F64, Text, Bytes, EnumNumber, ScalarKind, Double, Float, Int64, Uint64, Int32, Fixed64, Fixed32, BoolKind, StringKind, BytesKind, Uint32, Sfixed32, Sfixed64, Sint32, Sint64, Enum, Open}
use Rattle.prost_reflect_tables.specs.declared.tables.TableKind.{TableKind}
use Rattle.prost_reflect_tables.specs.declared.tables.TableKind.TheVariants as kinds
use Rattle.prost_reflect_tables.specs.Rows.{EnumValueRow}

-- WHOLE NUMBERS

abbrev pub is_digit : ℕ → Bool
is_digit b = nat_le 48 b && nat_le b 57

-- The number of digits that stand behind others of the number n.
abbrev pub digits_from : ℕ → List ℕ → Option ℕ
digits_from n [] = Some n
digits_from n (b ∷ text) = if is_digit b then digits_from (10 * n + (b - 48)) text else None

-- At least one decimal digit.
abbrev pub whole_number : List ℕ → Option ℕ
whole_number [] = None
whole_number (b ∷ text) = digits_from 0 (b ∷ text)

abbrev pub up_to : ℕ → Option ℕ → Option ℕ
up_to limit None = None
up_to limit (Some n) = if nat_le n limit then Some n else None

abbrev pub is_negative : List ℕ → Bool
is_negative [] = false
is_negative (b ∷ text) = nat_eq b 45

-- The text behind its first character.
abbrev pub behind : List ℕ → List ℕ
behind [] = []
behind (b ∷ text) = text

-- Digits behind an optional `-`, from -limit to limit - 1.
abbrev pub signed : (limit : ℕ) → List ℕ → Option ℤ
signed limit text =
    if is_negative text
    then option_map (λ n. neg_ℤ (pos n)) (up_to limit (whole_number (behind text)))
    else option_map pos (up_to (limit - 1) (whole_number text))

-- FLOATING-POINT NUMBERS

-- A binary format of IEEE 754: the bits of infinity, of a NaN and of the sign, the width of the fraction, and the bias of the exponent.
pub record FloatFormat : Type 0 where
  pub infinity : ℕ
  pub nan : ℕ
  pub sign : ℕ
  pub fraction_bits : ℕ
  pub bias : ℕ

abbrev pub binary32 : FloatFormat
binary32 = record { infinity = 0x7f800000; nan = 0x7fc00000; sign = 2 ^ 31; fraction_bits = 23; bias = 127 }

abbrev pub binary64 : FloatFormat
binary64 = record { infinity = 0x7ff0000000000000; nan = 0x7ff8000000000000; sign = 2 ^ 63; fraction_bits = 52; bias = 1023 }

-- The greatest e up to a limit whose power 2^e is at most the number.
unfoldable pub greatest_exponent : ℕ → ℕ → ℕ
greatest_exponent zero n = 0
greatest_exponent (suc e) n = if nat_le (2 ^ (suc e)) n then suc e else greatest_exponent e n

-- The bits of the number n, where 2^e is its greatest power of two.
abbrev pub bits_at : (fraction_bits bias n e : ℕ) → ℕ
bits_at fraction_bits bias n e = (e + bias) * 2 ^ fraction_bits + (n - 2 ^ e) * 2 ^ fraction_bits / 2 ^ e

abbrev pub whole_bits : (fraction_bits bias n : ℕ) → ℕ
whole_bits fraction_bits bias n = if nat_eq n 0 then 0 else bits_at fraction_bits bias n (greatest_exponent (fraction_bits + 1) n)

-- Whole numbers that the format holds exactly, each below it too.
abbrev pub magnitude_bits : FloatFormat → List ℕ → Option ℕ
magnitude_bits format text =
    if bytes_eq text (codes "inf")
    then Some format.infinity
    else option_map (whole_bits format.fraction_bits format.bias) (up_to (2 ^ (format.fraction_bits + 1)) (whole_number text))

abbrev pub float_bits : FloatFormat → List ℕ → Option ℕ
float_bits format text =
    if bytes_eq text (codes "nan")
    then Some format.nan
    else if is_negative text
    then option_map (λ n. format.sign + n) (magnitude_bits format (behind text))
    else magnitude_bits format text

-- BYTES

abbrev pub is_octal : ℕ → Bool
is_octal b = nat_le 48 b && nat_le b 55

-- A number that stands in front of a text, and the text behind it.
pub record Front : Type 0 where
  pub value : ℕ
  pub rest : List ℕ

-- One octal digit more, if one stands there.
abbrev pub front : ℕ → List ℕ → Front
front value rest = record { value = value; rest = rest }

unfoldable pub octal_digit : Front → List ℕ → Front
octal_digit digits [] = digits
octal_digit digits (b ∷ text) = if is_octal b then front (8 * digits.value + (b - 48)) text else digits

-- The octal digits in front, as many as stand there, at most three.
abbrev pub octal : List ℕ → Front
octal text =
    let first = octal_digit (front 0 text) text in
    let second = octal_digit first first.rest in
    octal_digit second second.rest

-- What a letter means behind a backslash: `n`, `r`, `t`, and a quote or a backslash itself.
abbrev pub letter : ℕ → Option ℕ
letter b =
    if nat_eq b 110 then Some 10 else
    if nat_eq b 114 then Some 13 else
    if nat_eq b 116 then Some 9 else
    if nat_eq b 34 || nat_eq b 39 || nat_eq b 92 then Some b else
    None

-- What stands behind a backslash: octal digits of a byte, or a letter.
abbrev pub escaped : List ℕ → Option Front
escaped [] = None
escaped (b ∷ text) =
    if is_octal b
    then (let digits = octal (b ∷ text) in if nat_le digits.value 255 then Some digits else None)
    else option_map (λ byte. front byte text) (letter b)

-- The byte that a text begins with.
abbrev pub front_byte : ℕ → List ℕ → Option Front
front_byte b text = if nat_eq b 92 then escaped text else Some (front b text)

-- The bytes of a text, byte by byte; each takes a character at least.
unfoldable pub unescaped_in : (steps : ℕ) → List ℕ → Option (List ℕ)
unescaped_in steps [] = Some []
unescaped_in zero (b ∷ text) = None
unescaped_in (suc steps) (b ∷ text) = option_and_then (λ first. option_map (λ bytes. first.value ∷ bytes) (unescaped_in steps first.rest)) (front_byte b text)

abbrev pub unescaped : List ℕ → Option (List ℕ)
unescaped text = unescaped_in (length text) text

-- ENUMS

-- The number of the first value of a name.
abbrev pub number_named : List EnumValueRow → List ℕ → Option ℤ
number_named values name = option_map (λ v. v.number) (find (λ v. bytes_eq v.id.name name) values)

-- ALL KINDS

abbrev pub boolean : List ℕ → Option Bool
boolean text = if bytes_eq text (codes "true") then Some true else if bytes_eq text (codes "false") then Some false else None

-- The default of a singular field of a kind; of an enum, with the enum's values.
unfoldable pub written_default : ScalarKind → List EnumValueRow → List ℕ → Option Scalar
written_default Double values text = option_map F64 (float_bits binary64 text)
written_default Float values text = option_map F32 (float_bits binary32 text)
written_default Int32 values text = option_map I32 (signed (2 ^ 31) text)
written_default Sint32 values text = option_map I32 (signed (2 ^ 31) text)
written_default Sfixed32 values text = option_map I32 (signed (2 ^ 31) text)
written_default Int64 values text = option_map I64 (signed (2 ^ 63) text)
written_default Sint64 values text = option_map I64 (signed (2 ^ 63) text)
written_default Sfixed64 values text = option_map I64 (signed (2 ^ 63) text)
written_default Uint32 values text = option_map U32 (up_to (2 ^ 32 - 1) (whole_number text))
written_default Fixed32 values text = option_map U32 (up_to (2 ^ 32 - 1) (whole_number text))
written_default Uint64 values text = option_map U64 (up_to (2 ^ 64 - 1) (whole_number text))
written_default Fixed64 values text = option_map U64 (up_to (2 ^ 64 - 1) (whole_number text))
written_default BoolKind values text = option_map Boolean (boolean text)
written_default StringKind values text = Some (Text text)
written_default BytesKind values text = option_map Bytes (unescaped text)
written_default (Enum first numbers) values text = option_map EnumNumber (number_named values text)

-- FIELDS

-- The scalar kinds as payloads, values and written defaults tell them: each enum as one that takes every number. A message has none.
abbrev pub plain_kind : TableKind → Option ScalarKind
plain_kind kinds.Double = Some Double
plain_kind kinds.Float = Some Float
plain_kind kinds.Int32 = Some Int32
plain_kind kinds.Int64 = Some Int64
plain_kind kinds.Uint32 = Some Uint32
plain_kind kinds.Uint64 = Some Uint64
plain_kind kinds.Sint32 = Some Sint32
plain_kind kinds.Sint64 = Some Sint64
plain_kind kinds.Fixed32 = Some Fixed32
plain_kind kinds.Fixed64 = Some Fixed64
plain_kind kinds.Sfixed32 = Some Sfixed32
plain_kind kinds.Sfixed64 = Some Sfixed64
plain_kind kinds.Bool = Some BoolKind
plain_kind kinds.String = Some StringKind
plain_kind kinds.Bytes = Some BytesKind
plain_kind (kinds.Enum E) = Some (Enum (pos 0) Open)
plain_kind (kinds.Message T) = None

-- The default of a singular field of a kind, which may be an enum of these values.
abbrev pub field_default : TableKind → List EnumValueRow → List ℕ → Option Scalar
field_default kind values text = option_and_then (λ k. written_default k values text) (plain_kind kind)
