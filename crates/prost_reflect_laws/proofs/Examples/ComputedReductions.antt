-- The worked examples of reductions, but for those that are none.
use Rattle.std.specs.Prelude.{◌∷◌}
use Rattle.prost_reflect_laws.proofs.Common.{[], refl, is_utf8, chars, encode_utf8, short, read, unpacked, allows, meaning, steps, my_message, older_message, message_without_bar, unpacked_list, packed_list, maps, maps_without_q, extended, no_fields}
use Rattle.prost_reflect_laws.specs.Examples.Reductions.{Reductions, Passing}

pub reductions : Reductions
unfolding short read unpacked allows meaning steps is_utf8 chars encode_utf8
reductions = record {
  itself = record { pairs = (my_message, my_message) ∷ []; first = refl; each = refl };
  without_field = record { pairs = (older_message, my_message) ∷ []; first = refl; each = refl };
  without_lone_member = record { pairs = (message_without_bar, my_message) ∷ []; first = refl; each = refl };
  without_map = record { pairs = (maps_without_q, maps) ∷ []; first = refl; each = refl };
  without_extension = record { pairs = (no_fields, extended) ∷ []; first = refl; each = refl };
  packing = record { pairs = (packed_list, unpacked_list) ∷ []; first = refl; each = refl };
  unpacking = record { pairs = (unpacked_list, packed_list) ∷ []; first = refl; each = refl };
}

pub passing : Passing
unfolding short read unpacked allows meaning steps is_utf8 chars encode_utf8
passing = record {
  older = refl;
  older_before = refl;
  older_behind = refl;
  map = refl;
  map_before = refl;
  map_behind = refl;
  packing = refl;
  packing_behind = refl;
  members_relayed = refl;
  members_before = refl;
  members_behind = refl;
  numbers_relayed = refl;
  numbers_before = refl;
  numbers_behind = refl;
}
