-- The worked examples of linking, by computing.
use Rattle.prost_reflect_tables.proofs.Common.{refl, is_utf8, chars, read}
use Rattle.std.specs.Char.{encode_utf8}
use Rattle.prost_reflect_tables.specs.LinkingExamples.{OptionBytes, KindsAndLabels, PackedAndPresent, Orders, NamesInJson}

pub option_bytes : OptionBytes
unfolding read
option_bytes = record { packed = refl; unpacked = refl; last = refl; two = refl; others = refl; absent = refl; no_bytes = refl; cut = refl }

pub kinds_and_labels : KindsAndLabels
unfolding is_utf8 chars encode_utf8
kinds_and_labels = record {
  first = refl;
  last = refl;
  bool = refl;
  group = refl;
  message = refl;
  enum = refl;
  unknown = (refl, refl);
  labels = refl;
  numbers = refl;
  places = refl;
  named = refl;
  not_named = refl;
}

pub packed_and_present : PackedAndPresent
packed_and_present = record {
  packed_by_syntax = λ f none. (rw none refl, rw none refl);
  never_packed = λ f. (refl, refl);
  plain_number = λ f none unmarked. rw (none, unmarked) refl;
  in_proto2 = λ f. refl;
  as_extension = λ f. refl;
  of_message = λ f. refl;
  as_member = λ f member. rw member refl;
  marked = λ f none is. rw (none, is) refl;
  of_list = λ f. refl;
}

pub orders : Orders
unfolding is_utf8 chars encode_utf8
orders = record { order = refl; of_place = refl }

pub names_in_json : NamesInJson
unfolding is_utf8 chars encode_utf8
names_in_json = record { written = λ d s is. rw is refl; unwritten = λ d s none is. rw (none, is) refl; extension = λ d is. rw is refl }
