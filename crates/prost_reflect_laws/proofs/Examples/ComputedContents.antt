-- The worked examples of contents and of what changes them.
use Rattle.prost_reflect_laws.proofs.Common.{length, refl, ap, sym, true≢false, arith, is_utf8, chars, encode_utf8, short, read, unpacked, allows, meaning, steps, NoEntries, Stored, Writable, my_message, content, inner, int}
use Rattle.prost_reflect_laws.specs.Examples.Contents.{Schemas, Validity, Encodable, WellTypedContents, Kept}
use Rattle.prost_reflect_laws.specs.Examples.Editing.{Merging, OneNumber, Access, Paths}

same_bytes_writable : Writable (content my_message (Stored 3 (inner my_message (Stored 1 (int 1) NoEntries)) NoEntries))
unfolding short read unpacked allows meaning steps is_utf8 chars encode_utf8
same_bytes_writable = record { checked = refl; typed = record { fitting = record { fits = refl; types = (((refl, refl), (tt, tt)), tt); order = refl; nonempty = refl }; members = refl; without_stored_defaults = refl }; length = omega arith }

pub schemas : Schemas
unfolding short read unpacked allows meaning steps is_utf8 chars encode_utf8
schemas = record {
  examples_valid = refl;
  list_with_presence = refl;
  list_with_label = refl;
  list_valid = refl;
  packed_texts = refl;
  message_without_presence = refl;
  value_without_presence = refl;
  message_key = refl;
  member_without_presence = refl;
}

pub validity : Validity
unfolding short read unpacked allows meaning steps is_utf8 chars encode_utf8
validity = record {
  number = refl;
  text_for_number = refl;
  lone_for_list = refl;
  list_for_list = refl;
  empty_list = refl;
  list_for_one = refl;
  map = refl;
  other_key = refl;
  message_for_map = refl;
  any_message = refl;
  other_message = refl;
  list_for_kind = refl;
}

pub encodable : Encodable
unfolding short read unpacked allows meaning steps is_utf8 chars encode_utf8
encodable = record {
  text_in_number = refl;
  text_inside = refl;
  text_in_list = refl;
  unknown_number = refl;
  known_number = refl;
  other_type = refl;
  other_type_untyped = λ t. true≢false (sym t.0.0.1);
  other_type_written = refl;
  other_schema = refl;
  other_schema_untyped = λ t. absurd (omega (arith, ap length t.0.0.0));
  other_schema_written = refl;
  same_bytes = same_bytes_writable;
  same_bytes_written = refl;
  text_typed = (tt, tt);
  message_at_map = λ t. t.0.0;
  message_in_map = ((((refl, refl), tt), tt), tt);
}

pub well_typed_contents : WellTypedContents
unfolding short read unpacked allows meaning steps is_utf8 chars encode_utf8
well_typed_contents = record {
  well = record { fitting = record { fits = refl; types = (((refl, refl), (tt, (tt, tt))), tt); order = refl; nonempty = refl }; members = refl; without_stored_defaults = refl };
  numbers_descend = refl;
  number_twice = refl;
  keys_descend = refl;
  key_twice = refl;
  two_members = refl;
  two_members_fit = record { fits = refl; types = (tt, (((refl, refl), tt), tt)); order = refl; nonempty = refl };
  stored_default_fits = record { fits = refl; types = (tt, tt); order = refl; nonempty = refl };
  empty_list = refl;
  empty_map = refl;
  stored_default = refl;
  member_default = refl;
  map_default = refl;
}

pub kept : Kept
unfolding short read unpacked allows meaning steps is_utf8 chars encode_utf8
kept = record {
  defaults = refl;
  empty_list = refl;
  empty_map = refl;
  elements = refl;
  in_map = refl;
}

pub merging : Merging
unfolding short read unpacked allows meaning steps is_utf8 chars encode_utf8
merging = record {
  default_clears = refl;
  list_grows = refl;
  message_merges = refl;
  member_cleared = refl;
  unknown_joins = refl;
}

pub one_number : OneNumber
unfolding short read unpacked allows meaning steps is_utf8 chars encode_utf8
one_number = record {
  set = refl;
  set_default = refl;
  set_member_default = refl;
  set_empty = refl;
  set_message = refl;
  set_clears = refl;
  set_keeps_stray = refl;
  clear_keeps_stray = refl;
  clear = refl;
  clear_absent = refl;
  clear_whole = refl;
}

pub access : Access
unfolding short read unpacked allows meaning steps is_utf8 chars encode_utf8
access = record {
  stored = refl;
  default = refl;
  message_default = refl;
  list_default = refl;
  opened_with_presence = refl;
  opened_without = refl;
  opened_clears = refl;
}

pub paths : Paths
unfolding short read unpacked allows meaning steps is_utf8 chars encode_utf8
paths = record {
  older = refl;
  older_means = refl;
  member = refl;
  stray = refl;
  inside = refl;
  made = refl;
  last_level = refl;
}
