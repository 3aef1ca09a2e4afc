-- What the code's types say of linked rows, and no check has to: the numbers of enum values are i32s.
use Rattle.std.specs.Prelude.{Bool}
use Rattle.std.specs.List.{list_all}
use Rattle.prost_reflect_wire.specs.Scalar.{in_i32}
use Rattle.prost_reflect_tables.specs.Rows.{EnumRow, TableRows, value_numbers}

abbrev pub enum_in_range : EnumRow → Bool
enum_in_range e = list_all in_i32 (value_numbers e)

abbrev pub in_range : TableRows → Bool
in_range rows = list_all enum_in_range rows.enums
