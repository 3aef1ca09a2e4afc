-- Scalar values, their kinds and their payloads (the encoding guide, "More Integer Types", "Non-varint Numbers" and the "Condensed Reference Card").
use Rattle.std.specs.Prelude.{ℕ, ◌+◌, ◌*◌, ◌/◌, ◌%◌, ◌^◌, nat_eq, nat_lt, if◌then◌else◌, Bool, true, false, not, ◌&&◌, ℤ, pos, negsuc, List, [], Option, Some, None}
use Rattle.std.specs.declared.cmp.Ordering.{Ordering}
use Rattle.std.specs.declared.cmp.Ordering.TheVariants.{Less}
use Rattle.std.specs.Ordering.{nat_cmp, int_cmp, bool_cmp, int_eq, is_eq}
use Rattle.std.specs.Cmp.Lexicographic.{slice_cmp}
use Rattle.std.specs.Int.{w32, w64, from_le_bytes, to_le_bytes, cast_signed, cast_unsigned}
use Rattle.std.specs.List.{list_any}
use Rattle.std.specs.Str.{is_utf8}
use Rattle.prost_reflect_wire.specs.Varint.{are_bytes}
use Rattle.prost_reflect_wire.specs.Record.{Plain, Var, Fix64, Len, Fix32, Payload, Flat}
use Rattle.prost_reflect_wire.specs.declared.key.WireType.{WireType}
use Rattle.prost_reflect_wire.specs.declared.key.WireType.TheVariants as wires

-- A value that is no message; floats are bits.
pub data Scalar : Type 0 where
  Boolean : Bool → Scalar
  I32 : ℤ → Scalar
  I64 : ℤ → Scalar
  U32 : ℕ → Scalar
  U64 : ℕ → Scalar
  F32 : ℕ → Scalar
  F64 : ℕ → Scalar
  Text : List ℕ → Scalar
  Bytes : List ℕ → Scalar
  EnumNumber : ℤ → Scalar

-- An open enum holds every number, a closed one those that it declares.
pub data EnumNumbers : Type 0 where
  Open : EnumNumbers
  Closed : List ℤ → EnumNumbers

-- An enum has the number of its first value.
pub data ScalarKind : Type 0 where
  Double Float Int64 Uint64 Int32 Fixed64 Fixed32 BoolKind StringKind BytesKind Uint32 Sfixed32 Sfixed64 Sint32 Sint64 : ScalarKind
  Enum : (first : ℤ) (numbers : EnumNumbers) → ScalarKind

-- COMPARISON

-- The place of a variant in the order of values.
abbrev pub variant_rank : Scalar → ℕ
variant_rank (Boolean b) = 0
variant_rank (I32 z) = 1
variant_rank (I64 z) = 2
variant_rank (U32 n) = 3
variant_rank (U64 n) = 4
variant_rank (Text x) = 5
variant_rank (F32 n) = 6
variant_rank (F64 n) = 7
variant_rank (Bytes x) = 8
variant_rank (EnumNumber z) = 9

-- Variants in their order, then values; texts by their bytes.
abbrev pub scalar_cmp : Scalar → Scalar → Ordering
scalar_cmp (Boolean a) (Boolean b) = bool_cmp a b
scalar_cmp (I32 a) (I32 b) = int_cmp a b
scalar_cmp (I64 a) (I64 b) = int_cmp a b
scalar_cmp (U32 a) (U32 b) = nat_cmp a b
scalar_cmp (U64 a) (U64 b) = nat_cmp a b
scalar_cmp (Text a) (Text b) = slice_cmp nat_cmp a b
scalar_cmp (F32 a) (F32 b) = nat_cmp a b
scalar_cmp (F64 a) (F64 b) = nat_cmp a b
scalar_cmp (Bytes a) (Bytes b) = slice_cmp nat_cmp a b
scalar_cmp (EnumNumber a) (EnumNumber b) = int_cmp a b
scalar_cmp a b = nat_cmp (variant_rank a) (variant_rank b)

abbrev pub scalar_eq : Scalar → Scalar → Bool
scalar_eq a b = is_eq (scalar_cmp a b)

abbrev pub is_less : Ordering → Bool
is_less Less = true
is_less o = false

abbrev pub scalar_lt : Scalar → Scalar → Bool
scalar_lt a b = is_less (scalar_cmp a b)

-- INTEGERS ON THE WIRE

abbrev pub low_32 : ℕ → ℕ
low_32 v = v % 2 ^ 32

-- The low 32 bits, as an i32.
abbrev pub low_i32 : ℕ → ℤ
low_i32 v = cast_signed w32 (low_32 v)

-- 0, 1, 2, 3 are 0, -1, 1, -2.
abbrev pub unzigzag : ℕ → ℤ
unzigzag v = if nat_eq (v % 2) 0 then pos (v / 2) else negsuc (v / 2)

abbrev pub zigzag : ℤ → ℕ
zigzag (pos n) = 2 * n
zigzag (negsuc n) = 2 * n + 1

-- THE TABLE OF KINDS

abbrev pub kind_wire : ScalarKind → WireType
kind_wire Double = wires.SixtyFourBit
kind_wire Fixed64 = wires.SixtyFourBit
kind_wire Sfixed64 = wires.SixtyFourBit
kind_wire Float = wires.ThirtyTwoBit
kind_wire Fixed32 = wires.ThirtyTwoBit
kind_wire Sfixed32 = wires.ThirtyTwoBit
kind_wire StringKind = wires.LengthDelimited
kind_wire BytesKind = wires.LengthDelimited
kind_wire kind = wires.Varint

-- The value of a payload, if the kind takes it. An enum takes undeclared numbers too.
abbrev pub elem : ScalarKind → Payload → Option Scalar
elem Double (Flat (Fix64 bytes)) = Some (F64 (from_le_bytes w64 bytes))
elem Float (Flat (Fix32 bytes)) = Some (F32 (from_le_bytes w32 bytes))
elem Int64 (Flat (Var v)) = Some (I64 (cast_signed w64 v))
elem Uint64 (Flat (Var v)) = Some (U64 v)
elem Int32 (Flat (Var v)) = Some (I32 (low_i32 v))
elem Fixed64 (Flat (Fix64 bytes)) = Some (U64 (from_le_bytes w64 bytes))
elem Fixed32 (Flat (Fix32 bytes)) = Some (U32 (from_le_bytes w32 bytes))
elem BoolKind (Flat (Var v)) = Some (Boolean (not (nat_eq v 0)))
elem StringKind (Flat (Len bytes)) = if is_utf8 bytes then Some (Text bytes) else None
elem BytesKind (Flat (Len bytes)) = Some (Bytes bytes)
elem Uint32 (Flat (Var v)) = Some (U32 (low_32 v))
elem (Enum first numbers) (Flat (Var v)) = Some (EnumNumber (low_i32 v))
elem Sfixed32 (Flat (Fix32 bytes)) = Some (I32 (cast_signed w32 (from_le_bytes w32 bytes)))
elem Sfixed64 (Flat (Fix64 bytes)) = Some (I64 (cast_signed w64 (from_le_bytes w64 bytes)))
elem Sint32 (Flat (Var v)) = Some (I32 (unzigzag (low_32 v)))
elem Sint64 (Flat (Var v)) = Some (I64 (unzigzag v))
elem kind p = None

-- The payload that is written; of a value of another kind nothing is meant.
abbrev pub written : ScalarKind → Scalar → Plain
written Double (F64 n) = Fix64 (to_le_bytes w64 n)
written Float (F32 n) = Fix32 (to_le_bytes w32 n)
written Int64 (I64 z) = Var (cast_unsigned w64 z)
written Uint64 (U64 n) = Var n
written Int32 (I32 z) = Var (cast_unsigned w64 z)
written Fixed64 (U64 n) = Fix64 (to_le_bytes w64 n)
written Fixed32 (U32 n) = Fix32 (to_le_bytes w32 n)
written BoolKind (Boolean b) = Var (if b then 1 else 0)
written StringKind (Text bytes) = Len bytes
written BytesKind (Bytes bytes) = Len bytes
written Uint32 (U32 n) = Var n
written (Enum first numbers) (EnumNumber z) = Var (cast_unsigned w64 z)
written Sfixed32 (I32 z) = Fix32 (to_le_bytes w32 (cast_unsigned w32 z))
written Sfixed64 (I64 z) = Fix64 (to_le_bytes w64 (cast_unsigned w64 z))
written Sint32 (I32 z) = Var (zigzag z)
written Sint64 (I64 z) = Var (zigzag z)
written kind value = Len []

-- Zero, false, empty, or an enum's first value.
abbrev pub kind_default : ScalarKind → Scalar
kind_default Double = F64 0
kind_default Float = F32 0
kind_default Int64 = I64 (pos 0)
kind_default Uint64 = U64 0
kind_default Int32 = I32 (pos 0)
kind_default Fixed64 = U64 0
kind_default Fixed32 = U32 0
kind_default BoolKind = Boolean false
kind_default StringKind = Text []
kind_default BytesKind = Bytes []
kind_default Uint32 = U32 0
kind_default (Enum first numbers) = EnumNumber first
kind_default Sfixed32 = I32 (pos 0)
kind_default Sfixed64 = I64 (pos 0)
kind_default Sint32 = I32 (pos 0)
kind_default Sint64 = I64 (pos 0)

abbrev pub is_declared : EnumNumbers → ℤ → Bool
is_declared Open z = true
is_declared (Closed numbers) z = list_any (int_eq z) numbers

-- A varint of a closed enum that declares no such number.
abbrev pub is_undeclared : ScalarKind → Payload → Bool
is_undeclared (Enum first numbers) (Flat (Var v)) = not (is_declared numbers (low_i32 v))
is_undeclared kind p = false

-- VALUES OF A KIND

abbrev pub in_i32 : ℤ → Bool
in_i32 (pos n) = nat_lt n (2 ^ 31)
in_i32 (negsuc n) = nat_lt n (2 ^ 31)

abbrev pub in_i64 : ℤ → Bool
in_i64 (pos n) = nat_lt n (2 ^ 63)
in_i64 (negsuc n) = nat_lt n (2 ^ 63)

-- The variant is the kind's and the value in its range; a closed enum's value is declared.
abbrev pub scalar_valid : ScalarKind → Scalar → Bool
scalar_valid Double (F64 n) = nat_lt n (2 ^ 64)
scalar_valid Float (F32 n) = nat_lt n (2 ^ 32)
scalar_valid Int64 (I64 z) = in_i64 z
scalar_valid Uint64 (U64 n) = nat_lt n (2 ^ 64)
scalar_valid Int32 (I32 z) = in_i32 z
scalar_valid Fixed64 (U64 n) = nat_lt n (2 ^ 64)
scalar_valid Fixed32 (U32 n) = nat_lt n (2 ^ 32)
scalar_valid BoolKind (Boolean b) = true
scalar_valid StringKind (Text bytes) = is_utf8 bytes
scalar_valid BytesKind (Bytes bytes) = are_bytes bytes
scalar_valid Uint32 (U32 n) = nat_lt n (2 ^ 32)
scalar_valid (Enum first numbers) (EnumNumber z) = in_i32 z && is_declared numbers z
scalar_valid Sfixed32 (I32 z) = in_i32 z
scalar_valid Sfixed64 (I64 z) = in_i64 z
scalar_valid Sint32 (I32 z) = in_i32 z
scalar_valid Sint64 (I64 z) = in_i64 z
scalar_valid kind value = false
