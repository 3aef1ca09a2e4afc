-- The numbers and names that definitions reserve, and the numbers that message types keep for extensions.
use Rattle.std.specs.Prelude.{ℕ, ℤ, List, map, unwrap_or, pos, string_bytes}
use Rattle.prost_reflect_types.specs.declared.ExtensionRange.{ExtensionRange}
use Rattle.prost_reflect_types.specs.declared.ReservedRange.{ReservedRange}
use Rattle.prost_reflect_types.specs.declared.EnumReservedRange.{EnumReservedRange}
use Rattle.prost_reflect_tables.specs.Linking.{natural_or_zero}
use Rattle.prost_reflect_walks.specs.declared.ranges.ReservedRanges.{ReservedRanges}
use Rattle.prost_reflect_walks.specs.declared.ranges.ExtensionRanges.{ExtensionRanges}
use Rattle.prost_reflect_walks.specs.declared.ranges.EnumReservedRanges.{EnumReservedRanges}
use Rattle.prost_reflect_walks.specs.declared.ranges.ReservedNames.{ReservedNames}

-- The first number, and the one behind the last; a bound that is not there is 0.
abbrev pub reserved : ReservedRange → ℕ × ℕ
reserved r = (natural_or_zero r.start, natural_or_zero r.end)

abbrev pub extensible : ExtensionRange → ℕ × ℕ
extensible r = (natural_or_zero r.start, natural_or_zero r.end)

-- The first number, and the last.
abbrev pub enum_reserved : EnumReservedRange → ℤ × ℤ
enum_reserved r = (unwrap_or r.start (pos 0), unwrap_or r.end (pos 0))

abbrev pub reserved_left : ReservedRanges → List (ℕ × ℕ)
reserved_left it = map reserved it.records.now

abbrev pub extensible_left : ExtensionRanges → List (ℕ × ℕ)
extensible_left it = map extensible it.records.now

abbrev pub enum_reserved_left : EnumReservedRanges → List (ℤ × ℤ)
enum_reserved_left it = map enum_reserved it.records.now

abbrev pub names_left : ReservedNames → List (List ℕ)
names_left it = map string_bytes it.names.now
