-- The premises of the laws on reading back at worked examples.
use Rattle.std.specs.Prelude.{◌∷◌}
use Rattle.prost_reflect_laws.proofs.Common.{false, [], refl, is_utf8, chars, encode_utf8, short, read, Int32, known, ScalarOf, NoPairs, Pair, NoValues, Item, entries_of, unpacked, allows, meaning, steps, EntriesBack, ElementsBack, PairsBack, examples, my_message, unpacked_list, packed_list, maps, closed, text, int32, int, ascii, varint, delimited, sample}
use Rattle.prost_reflect_laws.specs.Examples.ReadBack.{OfReadingBack, foo, nested_field, one_inside, elements, unpacked_field, packed_field, map_field, pairs, enum_field}
use Rattle.prost_reflect_laws.proofs.Values.{scalar_back, message_back, stray_back}
use Rattle.prost_reflect_laws.proofs.Lists.{list_back}
use Rattle.prost_reflect_laws.proofs.Packed.{packed_back}
use Rattle.prost_reflect_laws.proofs.Maps.{map_back}
use Rattle.prost_reflect_laws.proofs.Back.{entries_mean}

elements_back : ElementsBack (meaning examples 1) (ScalarOf Int32) elements
unfolding short read unpacked allows meaning steps is_utf8 chars encode_utf8
elements_back = (record { one = refl; fits = refl; value = refl }, (record { one = refl; fits = refl; value = refl }, tt))

pairs_back : PairsBack (meaning examples 1) (text false) (int32 false) pairs
unfolding short read unpacked allows meaning steps is_utf8 chars encode_utf8
pairs_back = (record { stays = refl; key_read = refl; value_read = refl }, (record { stays = refl; key_read = refl; value_read = refl }, tt))

entries_back : EntriesBack (meaning examples 1) (known examples my_message) (entries_of sample)
unfolding short read unpacked allows meaning steps is_utf8 chars encode_utf8
entries_back = (
  _,
  refl,
  record { sources = varint 5 ∷ []; read = refl; strays = refl; value = refl },
  refl,
  (
    _,
    refl,
    record { sources = varint 66 ∷ []; read = refl; strays = refl; value = refl },
    refl,
    (_, refl, record { sources = delimited "0801" ∷ []; read = refl; strays = refl; value = refl }, refl, (record { read = refl; stays = refl }, tt)),
  ),
)

pub of_reading_back : OfReadingBack
unfolding short read unpacked allows meaning steps is_utf8 chars encode_utf8
of_reading_back = record {
  scalar_back = (refl, refl, refl);
  scalar_read = scalar_back (meaning examples 1) (known examples my_message) 1 foo Int32 _ refl refl refl refl refl;
  message_back = (refl, refl, refl, refl);
  message_read = message_back (meaning examples 1) (known examples my_message) 3 nested_field one_inside refl refl refl refl refl;
  list_back = (refl, elements_back);
  list_read = list_back (meaning examples 1) (known examples unpacked_list) 1 unpacked_field (int 1) (Item (int 0) NoValues) refl refl elements_back;
  packed_back = (refl, refl, refl);
  packed_read = packed_back (meaning examples 1) (known examples packed_list) 1 packed_field Int32 (int 1) (Item (int 0) NoValues) refl refl refl refl refl;
  map_back = (refl, pairs_back, refl);
  map_read = map_back (meaning examples 1) (known examples maps) 1 map_field (text false) (ascii "") (int 1) (Pair (ascii "a") (int 0) NoPairs) refl refl pairs_back refl;
  stray_back = (refl, refl);
  stray_read = stray_back (known examples closed) 1 enum_field (varint 7) refl refl;
  entries_mean = (entries_back, refl);
  entries_read = entries_mean examples 1 my_message (entries_of sample) entries_back refl;
}
