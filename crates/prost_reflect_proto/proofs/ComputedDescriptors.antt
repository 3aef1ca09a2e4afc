-- The worked examples of the records of a descriptor set.
use Rattle.prost_reflect_proto.proofs.Common.{refl, is_utf8, chars, short, read, unpacked, allows, meaning, record_schema}
use Rattle.std.specs.Char.{encode_utf8}
use Rattle.prost_reflect_proto.specs.DescriptorExamples.{Descriptors}

pub descriptors : Descriptors
unfolding short read unpacked allows meaning is_utf8 chars encode_utf8 record_schema
descriptors = record {
  places = refl;
  checked = refl;
  nothing = (refl, refl);
  options_join = (refl, refl);
  options_empty = (refl, refl);
  unknown_dropped = (refl, refl);
  unknown_group = (refl, refl);
  unknown_inside = (refl, refl);
  packed = (refl, refl);
  mixed = (refl, refl);
  last_name = (refl, refl);
  empty_text = (refl, refl);
  ascending = (refl, refl);
  ten_bytes = (refl, refl);
  elements = (refl, refl);
  optional_flag = (refl, refl);
  bad_text = refl;
  bad_text_inside = refl;
  wire_type = refl;
  raw_wire_type = refl;
  cut = refl;
  levels = refl;
  levels_past = refl;
}
