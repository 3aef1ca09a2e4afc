-- The worked examples, by computing.
use Rattle.prost_reflect_tables.proofs.Common.{refl, is_utf8, chars, schema_from}
use Rattle.std.specs.Char.{encode_utf8}
use Rattle.prost_reflect_tables.specs.Examples.{Tables, NotLinked}

pub tables : Tables
unfolding schema_from is_utf8 chars encode_utf8
tables = record { shown = refl; linked = refl }

pub not_linked : NotLinked
unfolding schema_from is_utf8 chars encode_utf8
not_linked = record {
  no_message = refl;
  no_enum = refl;
  no_oneof = refl;
  number_zero = refl;
  greatest_number = refl;
  number_too_great = refl;
  one_number_twice = refl;
  descending = refl;
  lone_entry = refl;
  entry_without_value = refl;
  list_with_presence = refl;
  list_with_default = refl;
  packed_texts = refl;
}
