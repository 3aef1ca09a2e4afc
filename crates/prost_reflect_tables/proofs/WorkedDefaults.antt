-- The written defaults of the examples, by computing.
use Rattle.prost_reflect_tables.proofs.Common.{refl, written_default, greatest_exponent, octal_digit, unescaped_in}
use Rattle.prost_reflect_tables.specs.DefaultExamples.{Integers, NoIntegers, Floats, NoFloats, Others, NoOthers, Escapes, NoEscapes}

pub integers : Integers
unfolding written_default greatest_exponent octal_digit unescaped_in
integers = record {
  int32 = refl;
  sint32 = refl;
  sfixed32 = refl;
  int64 = refl;
  sint64 = refl;
  sfixed64 = refl;
  uint32 = refl;
  fixed32 = refl;
  uint64 = refl;
  fixed64 = refl;
  zeros = refl;
  minus_zero = refl;
  greatest_i32 = refl;
  least_i32 = refl;
  greatest_i64 = refl;
  least_i64 = refl;
  greatest_u32 = refl;
  greatest_u64 = refl;
}

pub no_integers : NoIntegers
unfolding written_default greatest_exponent octal_digit unescaped_in
no_integers = record {
  above_i32 = refl;
  below_i32 = refl;
  above_i64 = refl;
  below_i64 = refl;
  above_u32 = refl;
  above_u64 = refl;
  nothing = refl;
  lone_minus = refl;
  unsigned_nothing = refl;
  plus = refl;
  unsigned_minus = refl;
  two_minus = refl;
  space = refl;
  hexadecimal = refl;
  fraction = refl;
  exponent = refl;
}

pub floats : Floats
unfolding written_default greatest_exponent octal_digit unescaped_in
floats = record {
  one = refl;
  two = refl;
  hundred = refl;
  odd = refl;
  greatest = refl;
  greatest_double = refl;
  odd_double = refl;
  one_double = refl;
  ten_double = refl;
  minus_one = refl;
  zero_bits = refl;
  minus_zero = refl;
  minus_zero_double = refl;
  zeros = refl;
  infinity = refl;
  minus_infinity = refl;
  nan = refl;
  infinity_double = refl;
  minus_infinity_double = refl;
  nan_double = refl;
}

pub no_floats : NoFloats
unfolding written_default greatest_exponent octal_digit unescaped_in
no_floats = record {
  past_float = refl;
  past_minus = refl;
  past_double = refl;
  fraction = refl;
  whole_fraction = refl;
  exponent = refl;
  minus_nan = refl;
  capitals = refl;
  long = refl;
  plus = refl;
  nothing = refl;
  lone_minus = refl;
}

pub others : Others
unfolding written_default greatest_exponent octal_digit unescaped_in
others = record {
  yes = refl;
  no = refl;
  text = refl;
  empty_text = refl;
  named = refl;
  first_named = refl;
}

pub no_others : NoOthers
unfolding written_default greatest_exponent octal_digit unescaped_in
no_others = record {
  number = refl;
  capitals = refl;
  nothing = refl;
  no_value = refl;
  number_of_value = refl;
}

pub escapes : Escapes
unfolding written_default greatest_exponent octal_digit unescaped_in
escapes = record {
  plain_bytes = refl;
  no_bytes = refl;
  high = refl;
  newline = refl;
  carriage_return = refl;
  tabulator = refl;
  double_quote = refl;
  single_quote = refl;
  one_backslash = refl;
  one_digit = refl;
  two_digits = refl;
  three_digits = refl;
  greatest = refl;
  zero_digit = refl;
  mixed = refl;
}

pub no_escapes : NoEscapes
unfolding written_default greatest_exponent octal_digit unescaped_in
no_escapes = record {
  past_byte = refl;
  greatest_digits = refl;
  eight = refl;
  hexadecimal = refl;
  bell = refl;
  lone = refl;
}
