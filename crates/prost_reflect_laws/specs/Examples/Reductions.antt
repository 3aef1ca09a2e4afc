-- Which types are others with fields left out, and what passes through them (the encoding guide, "Updating A Message Type").
use Rattle.std.specs.Prelude.{◌∷◌}
use Rattle.prost_reflect_laws.specs.Common.{pos, [], NoEntries, Stored, MapValue, NoPairs, Pair, I32, Reduced}
use Rattle.prost_reflect_laws.specs.Examples.Schemas.{examples, my_message, older_message, message_without_bar, unpacked_list, packed_list, maps, maps_without_m, maps_without_q, presence_map, choice, extended, field_at_hundred, no_fields, closed, older_closed, closed_alone, other_alone, open_alone, optional_a, required_a, plain_a, seven_a, signed_a, text_inside, two_choices, choices_without_a, choices_moved, one_message, message_list}
use Rattle.prost_reflect_laws.specs.Examples.Words.{int, enum, ascii, inner, list_of, Means, Becomes}

pub record Reductions : Type 0 where
  -- A type of itself.
  pub itself : Reduced examples my_message examples my_message
  -- Without a field, at each depth.
  pub without_field : Reduced examples older_message examples my_message
  -- Without the one member of a oneof.
  pub without_lone_member : Reduced examples message_without_bar examples my_message
  -- Without a map.
  pub without_map : Reduced examples maps_without_q examples maps
  -- Without an extension.
  pub without_extension : Reduced examples no_fields examples extended
  -- Packing may differ.
  pub packing : Reduced examples packed_list examples unpacked_list
  -- The other way.
  pub unpacking : Reduced examples unpacked_list examples packed_list

pub record NoReductions : Type 0 where
  -- The newer type is none of the older.
  pub backwards : Reduced examples my_message examples older_message → ⊥
  -- Optional against required.
  pub label : Reduced examples optional_a examples required_a → ⊥
  -- Required against optional.
  pub label_back : Reduced examples required_a examples optional_a → ⊥
  -- No presence against presence.
  pub presence : Reduced examples plain_a examples optional_a → ⊥
  -- Another default.
  pub default : Reduced examples seven_a examples optional_a → ⊥
  -- Another kind of the same values.
  pub kind : Reduced examples signed_a examples optional_a → ⊥
  -- One value against a list.
  pub form : Reduced examples one_message examples message_list → ⊥
  -- A field against an extension.
  pub extension : Reduced examples field_at_hundred examples extended → ⊥
  -- Presence in the entries of a map.
  pub entry_presence : Reduced examples presence_map examples maps → ⊥
  -- A member is left out that has a fellow.
  pub member_left_out : Reduced examples choices_without_a examples two_choices → ⊥
  -- Both members of a oneof are left out.
  pub added_members : Reduced examples no_fields examples choice → ⊥
  -- A member of another oneof.
  pub member_moved : Reduced examples choices_moved examples two_choices → ⊥
  -- Another first value of an enum.
  pub enum_first : Reduced examples other_alone examples closed_alone → ⊥
  -- Fewer numbers of a closed enum.
  pub enum_numbers : Reduced examples older_closed examples closed → ⊥
  -- An open enum against a closed one.
  pub enum_open : Reduced examples open_alone examples closed_alone → ⊥
  -- A difference in the message inside.
  pub inside : Reduced examples text_inside examples my_message → ⊥

pub record Passing : Type 0 where
  -- An older type passes on what it does not know: it means the same to the newer.
  pub older : Becomes older_message "1a0410420805" "1a0408051042"
  -- What the newer reads from the bytes that came in,
  pub older_before : Means my_message "1a0410420805" (Stored 3 (inner my_message (Stored 1 (int 5) (Stored 2 (int 66) NoEntries))) NoEntries)
  -- and from those that went out.
  pub older_behind : Means my_message "1a0408051042" (Stored 3 (inner my_message (Stored 1 (int 5) (Stored 2 (int 66) NoEntries))) NoEntries)
  -- A map that is not known, and one that is.
  pub map : Becomes maps_without_m "1200 0a00" "0a0012021200"
  -- What the newer reads before,
  pub map_before : Means maps "1200 0a00" (Stored 1 (MapValue (Pair (ascii "") (int 0) NoPairs)) (Stored 2 (MapValue (Pair (I32 (pos 0)) (inner my_message NoEntries) NoPairs)) NoEntries))
  -- and behind.
  pub map_behind : Means maps "0a0012021200" (Stored 1 (MapValue (Pair (ascii "") (int 0) NoPairs)) (Stored 2 (MapValue (Pair (I32 (pos 0)) (inner my_message NoEntries) NoPairs)) NoEntries))
  -- A packed list that an unpacked one is passed through.
  pub packing : Becomes packed_list "08010802" "0a020102"
  -- What the other then reads.
  pub packing_behind : Means unpacked_list "0a020102" (Stored 1 (list_of (int 1 ∷ int 2 ∷ [])) NoEntries)
  -- Why members of one oneof may not be left out: they are sorted by number, and another stays.
  pub members_relayed : Becomes no_fields "1200 0801" "08011200"
  -- Before, a is there;
  pub members_before : Means choice "1200 0801" (Stored 1 (int 1) NoEntries)
  -- behind, b.
  pub members_behind : Means choice "08011200" (Stored 2 (inner my_message NoEntries) NoEntries)
  -- Why a closed enum's numbers may not be fewer: a value becomes a stray and stands behind.
  pub numbers_relayed : Becomes older_closed "0801 0800" "08000801"
  -- Before, it is A;
  pub numbers_before : Means closed "0801 0800" (Stored 1 (enum 0) NoEntries)
  -- behind, B.
  pub numbers_behind : Means closed "08000801" (Stored 1 (enum 1) NoEntries)
