-- The worked examples of numbers, records, fields and lists.
use Rattle.prost_reflect_laws.proofs.Common.{refl, lit<, lit≤, is_utf8, chars, encode_utf8, short, read, unpacked, allows, meaning, steps}
use Rattle.prost_reflect_laws.specs.Examples.Numbers.{Varints, Zigzag, Kinds, KindRanges, PlainFields}
use Rattle.prost_reflect_laws.specs.Examples.Records.{Records, Unreadable, RawLevels}
use Rattle.prost_reflect_laws.specs.Examples.Fields.{Scalars, Texts, Messages, Oneofs, Extensions}
use Rattle.prost_reflect_laws.specs.Examples.Lists.{Lists}

pub varints : Varints
unfolding short read unpacked allows meaning steps is_utf8 chars encode_utf8
varints = record {
  zero_short = refl;
  one_byte_short = refl;
  two_bytes_short = refl;
  guide_short = refl;
  five_bytes_short = refl;
  greatest_short = refl;
  greatest_read = refl;
  rest_left = refl;
  needless_spelled = record { below = lit< tt; digits = (lit≤ tt, lit< tt, lit< tt); few = lit≤ tt; means = refl };
  needless_read = refl;
  most_needless_read = refl;
  eleven_bytes_refused = refl;
  tenth_above_refused = refl;
  cut_refused = refl;
}

pub zigzag : Zigzag
unfolding short read unpacked allows meaning steps is_utf8 chars encode_utf8
zigzag = record {
  written = refl;
  read = refl;
  greatest_32 = refl;
  least_32 = refl;
  least_64 = refl;
}

pub kinds : Kinds
unfolding short read unpacked allows meaning steps is_utf8 chars encode_utf8
kinds = record {
  int32_read = refl;
  int32_low = refl;
  int32_written = refl;
  int64_least = refl;
  int64_written = refl;
  int64_greatest = refl;
  uint32_low = refl;
  uint64_greatest = refl;
  sint32_low = refl;
  sint32_written = refl;
  sint64_least = refl;
  bool_read = refl;
  bool_written = refl;
  false_read = refl;
  fixed32_read = refl;
  fixed32_written = refl;
  fixed64_read = refl;
  fixed64_greatest = refl;
  sfixed32_read = refl;
  sfixed32_written = refl;
  sfixed64_read = refl;
  sfixed64_written = refl;
  float_read = refl;
  double_read = refl;
  string_read = refl;
  string_refused = refl;
  bytes_read = refl;
  enum_read = refl;
  enum_written = refl;
  other_wire_type = refl;
  enum_default = refl;
}

pub kind_ranges : KindRanges
unfolding short read unpacked allows meaning steps is_utf8 chars encode_utf8
kind_ranges = record {
  int32_above = refl;
  int32_least = refl;
  uint64_above = refl;
  other_variant = refl;
  bad_text = refl;
  undeclared = refl;
  declared = refl;
  open_number = refl;
}

pub plain_fields : PlainFields
unfolding short read unpacked allows meaning steps is_utf8 chars encode_utf8
plain_fields = record {
  negative_zero = (refl, refl);
  float_zero = (refl, refl);
  widths = refl;
}

pub records : Records
unfolding short read unpacked allows meaning steps is_utf8 chars encode_utf8
records = record {
  varint = refl;
  eight_bytes = refl;
  delimited = refl;
  group = refl;
  four_bytes = refl;
  group_back = refl;
  needless_digits = refl;
  needless_digits_back = refl;
  long_key = refl;
  long_length = refl;
  opaque = refl;
  none = refl;
  empty_payload = refl;
  empty_group = refl;
  greatest_number = refl;
}

pub unreadable : Unreadable
unfolding short read unpacked allows meaning steps is_utf8 chars encode_utf8
unreadable = record {
  number_zero = refl;
  wire_type_six = refl;
  wire_type_seven = refl;
  key_too_large = refl;
  key_cut = refl;
  varint_cut = refl;
  width_cut = refl;
  payload_cut = refl;
  group_unended = refl;
  end_alone = refl;
  other_end = refl;
}

pub raw_levels : RawLevels
unfolding short read unpacked allows meaning steps is_utf8 chars encode_utf8
raw_levels = record {
  plain = refl;
  empty_group = refl;
  group_in_group = refl;
  deepest = refl;
}

pub scalars : Scalars
unfolding short read unpacked allows meaning steps is_utf8 chars encode_utf8
scalars = record {
  number = (refl, refl);
  nothing = (refl, refl);
  last_wins = (refl, refl);
  last_default_wins = refl;
  presence = (refl, refl);
  own_default = refl;
  own_default_zero = refl;
  required_missing = (refl, refl);
  negative = (refl, refl);
  overlong = refl;
  cut = refl;
  wire_type = refl;
}

pub texts : Texts
unfolding short read unpacked allows meaning steps is_utf8 chars encode_utf8
texts = record {
  text = (refl, refl);
  bad_text = refl;
  text_cut = refl;
  empty_text = (refl, refl);
}

pub messages : Messages
unfolding short read unpacked allows meaning steps is_utf8 chars encode_utf8
messages = record {
  merge = (refl, refl);
  later_default = (refl, refl);
  empty_message = refl;
  deep_merge = refl;
  body_cut = refl;
  message_as_varint = refl;
  message_as_group = refl;
  group_as_message = refl;
  group = (refl, refl);
  groups_merge = (refl, refl);
  group_other_end = refl;
}

pub oneofs : Oneofs
unfolding short read unpacked allows meaning steps is_utf8 chars encode_utf8
oneofs = record {
  cleared = (refl, refl);
  last_stays = refl;
  last_stays_too = refl;
  apart = refl;
  default_clears = refl;
  unknown_clears_none = refl;
}

pub extensions : Extensions
unfolding short read unpacked allows meaning steps is_utf8 chars encode_utf8
extensions = record {
  known = (refl, refl);
  unknown = (refl, refl);
  wire_type = refl;
}

pub lists : Lists
unfolding short read unpacked allows meaning steps is_utf8 chars encode_utf8
lists = record {
  packed_read = (refl, refl);
  single_read = refl;
  mixed = (refl, refl);
  empty = (refl, refl);
  defaults_stay = refl;
  negative = refl;
  packed_signed = refl;
  packed_fixed = (refl, refl);
  needless_digits = refl;
  messages_apart = (refl, refl);
  texts = refl;
  element_cut = refl;
  fixed_cut = refl;
  wire_type = refl;
}
