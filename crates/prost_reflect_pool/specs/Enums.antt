-- What an enum declares.
use Rattle.std.specs.Prelude.{ℕ, ℤ, pos, List, [], Option, None, Some, slice_get}
use Rattle.prost_reflect_wire.specs.Scalar.{EnumNumbers, Open}
use Rattle.prost_reflect_tables.specs.Rows.{EnumValueRow, EnumRow, TableRows, value_numbers}
use Rattle.prost_reflect_tables.specs.Shown.{first_number, enum_numbers}

-- The number of the enum's first value. Nothing is meant by an enum that is not there.
abbrev pub first_of : Option EnumRow → ℤ
first_of None = pos 0
first_of (Some e) = first_number (value_numbers e)

-- The numbers that the enum takes.
abbrev pub numbers_or_none : Option EnumRow → EnumNumbers
numbers_or_none None = Open
numbers_or_none (Some e) = enum_numbers e

abbrev pub values_or_none : Option EnumRow → List EnumValueRow
values_or_none None = []
values_or_none (Some e) = e.values

-- The values of the enum of a place; none where there is no such enum.
abbrev pub values_at : TableRows → ℕ → List EnumValueRow
values_at rows E = values_or_none (slice_get rows.enums E)
