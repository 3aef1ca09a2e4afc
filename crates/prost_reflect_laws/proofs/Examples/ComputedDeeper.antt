-- The worked examples of maps, levels, unknown records and closed enums.
use Rattle.prost_reflect_laws.proofs.Common.{refl, is_utf8, chars, encode_utf8, short, read, unpacked, allows, meaning, steps}
use Rattle.prost_reflect_laws.specs.Examples.Maps.{Maps}
use Rattle.prost_reflect_laws.specs.Examples.Levels.{Levels, ContentLevels}
use Rattle.prost_reflect_laws.specs.Examples.Unknown.{UnknownRecords}
use Rattle.prost_reflect_laws.specs.Examples.ClosedEnums.{Strays, StrayContents}

pub maps : Maps
unfolding short read unpacked allows meaning steps is_utf8 chars encode_utf8
maps = record {
  last_wins = (refl, refl);
  message_replaced = refl;
  empty_entry = refl;
  empty_entry_back = refl;
  presence = (refl, refl);
  skipped = (refl, refl);
  skipped_group = (refl, refl);
  two_keys = refl;
  two_values = refl;
  value_first = refl;
  unwritten = (refl, refl);
  value_joins = (refl, refl);
  keys_ascend = refl;
  signed_keys = (refl, refl);
  wire_type = refl;
  group_for_entry = refl;
  key_wire_type = refl;
  value_wire_type = refl;
  key_text = refl;
  entry_cut = refl;
}

pub levels : Levels
unfolding short read unpacked allows meaning steps is_utf8 chars encode_utf8
levels = record {
  messages = refl;
  messages_length = refl;
  messages_past = refl;
  unknown_groups = refl;
  unknown_groups_past = refl;
  known_groups = refl;
  known_groups_past = refl;
  group_at_last = refl;
  group_past_last = refl;
  unwritten_at_last = refl;
  unwritten_past_last = refl;
  number_map_at_last = refl;
  skipped_at_last = refl;
  skipped_past_last = refl;
  none_left_scalar = refl;
  none_left_message = refl;
  none_left_group = refl;
}

pub content_levels : ContentLevels
unfolding short read unpacked allows meaning steps is_utf8 chars encode_utf8
content_levels = record {
  message = refl;
  group = refl;
  message_map = refl;
  number_map = refl;
}

pub unknown_records : UnknownRecords
unfolding short read unpacked allows meaning steps is_utf8 chars encode_utf8
unknown_records = record {
  ascending = (refl, refl);
  grouped = (refl, refl);
  none_replaced = refl;
  wire_types = refl;
  needless_digits = refl;
  bytes_kept = refl;
  group = (refl, refl);
  greatest_number = (refl, refl);
  inside = refl;
  merged = refl;
  bad_key = refl;
  wire_type_six = refl;
  key_too_large = refl;
}

pub strays : Strays
unfolding short read unpacked allows meaning steps is_utf8 chars encode_utf8
strays = record {
  stray = (refl, refl);
  between = (refl, refl);
  packed = (refl, refl);
  packed_alone = (refl, refl);
  entry = (refl, refl);
  entry_last_declared = refl;
  entry_last_undeclared = refl;
  entry_default = (refl, refl);
  entry_checked = refl;
  clears_none = (refl, refl);
  keeps_bits = (refl, refl);
  low_bits_declared = (refl, refl);
  extension = (refl, refl);
  extension_list = (refl, refl);
  open_enum = (refl, refl);
  open_entry = refl;
  wire_type = refl;
}

pub stray_contents : StrayContents
unfolding short read unpacked allows meaning steps is_utf8 chars encode_utf8
stray_contents = record {
  undeclared_value = refl;
  declared_value = refl;
  stray_fits = refl;
  stray_entry_fits = refl;
  declared_unfit = refl;
  packed_unfit = refl;
  entry_unfit = refl;
  bad_entry_unfit = refl;
  other_field_unfit = refl;
  entry_levels = refl;
  entry_one_level = refl;
  entry_no_level = refl;
}
