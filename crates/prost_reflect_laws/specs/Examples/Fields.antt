-- Fields of one value: presence, the last one wins, messages merge, oneofs and extensions (the encoding guide, "Last One Wins", "Optional and Repeated Elements", "Oneofs", "Submessages"; the guide on field presence).
use Rattle.std.specs.Prelude.{◌∷◌}
use Rattle.prost_reflect_laws.specs.Common.{[], Flat, Var, NoEntries, Stored, Unknown, ScalarValue}
use Rattle.prost_reflect_laws.specs.Examples.Schemas.{my_message, plain_a, seven_a, choice, two_choices, groups, item, extended, no_fields, text_at_one, required_a, nested_group}
use Rattle.prost_reflect_laws.specs.Examples.Words.{int, minus_one, ascii, inner, list_of, varint, Means, Reads, Refused}

pub record Scalars : Type 0 where
  -- 150 in two bytes.
  pub number : Reads my_message "089601" (Stored 1 (int 150) NoEntries) "089601"
  -- No bytes are the empty message.
  pub nothing : Reads my_message "" NoEntries ""
  -- The last record of a number wins.
  pub last_wins : Reads my_message "0801 0802" (Stored 1 (int 2) NoEntries) "0802"
  -- Also where it is the default and the field has no presence.
  pub last_default_wins : Means plain_a "0801 0800" NoEntries
  -- A default is absent without presence, and there with it: foo has none, bar has.
  pub presence : Reads my_message "0800 1000" (Stored 2 (int 0) NoEntries) "1000"
  -- A field's own default, 7, with presence is stored.
  pub own_default : Means seven_a "0807" (Stored 1 (int 7) NoEntries)
  -- 0, which is not this default.
  pub own_default_zero : Means seven_a "0800" (Stored 1 (int 0) NoEntries)
  -- A required field may be missing.
  pub required_missing : Reads required_a "" NoEntries ""
  -- A negative number in five bytes is read, and written in ten.
  pub negative : Reads my_message "08ffffffff0f" (Stored 1 minus_one NoEntries) "08ffffffffffffffffff01"
  -- A varint past 64 bits.
  pub overlong : Refused my_message "08ffffffffffffffffff02"
  -- A varint that is cut.
  pub cut : Refused my_message "0896"
  -- Four bytes for an int32.
  pub wire_type : Refused my_message "0d00000000"

pub record Texts : Type 0 where
  -- A text of one letter.
  pub text : Reads text_at_one "0a0161" (Stored 1 (ScalarValue (ascii "a")) NoEntries) "0a0161"
  -- What is no UTF-8 is refused.
  pub bad_text : Refused text_at_one "0a01ff"
  -- A text that is cut is refused.
  pub text_cut : Refused text_at_one "0a0561"
  -- The empty text is the default.
  pub empty_text : Reads text_at_one "0a00" NoEntries ""

pub record Messages : Type 0 where
  -- The records of a message join: foo from the first, bar from the second.
  pub merge : Reads my_message "1a020805 1a021042" (Stored 3 (inner my_message (Stored 1 (int 5) (Stored 2 (int 66) NoEntries))) NoEntries) "1a0408051042"
  -- A later default clears the number, and the message stays.
  pub later_default : Reads my_message "1a020805 1a020800" (Stored 3 (inner my_message NoEntries) NoEntries) "1a00"
  -- An empty message is there.
  pub empty_message : Means my_message "1a00" (Stored 3 (inner my_message NoEntries) NoEntries)
  -- Messages merge at each depth.
  pub deep_merge : Means my_message "1a041a020805 1a041a021042" (Stored 3 (inner my_message (Stored 3 (inner my_message (Stored 1 (int 5) (Stored 2 (int 66) NoEntries))) NoEntries)) NoEntries)
  -- A body must be records to its end.
  pub body_cut : Refused my_message "1a0108"
  -- A varint for a message.
  pub message_as_varint : Refused my_message "1800"
  -- A group for a message.
  pub message_as_group : Refused my_message "1b1c"
  -- A message for a group.
  pub group_as_message : Refused groups "0a020801"
  -- A group is its records between its keys.
  pub group : Reads groups "0b08010c" (Stored 1 (list_of (inner item (Stored 1 (int 1) NoEntries) ∷ [])) NoEntries) "0b08010c"
  -- The records of a group join, as those of a message do.
  pub groups_merge : Reads nested_group "0b28010c 0b28020c" (Stored 1 (inner nested_group (Unknown 5 (varint 1) (Unknown 5 (varint 2) NoEntries))) NoEntries) "0b280128020c"
  -- A group that another number ends.
  pub group_other_end : Refused groups "0b080114"

pub record Oneofs : Type 0 where
  -- A record of a member clears the others first: b starts anew after a.
  pub cleared : Reads choice "12020805 0801 12021042" (Stored 2 (inner my_message (Stored 2 (int 66) NoEntries)) NoEntries) "12021042"
  -- The last member stays.
  pub last_stays : Means choice "1200 0801" (Stored 1 (int 1) NoEntries)
  -- Whichever it is.
  pub last_stays_too : Means choice "0801 1200" (Stored 2 (inner my_message NoEntries) NoEntries)
  -- Members of different oneofs leave one another alone.
  pub apart : Means two_choices "0801 1802" (Stored 1 (int 1) (Stored 3 (int 2) NoEntries))
  -- A member has presence: its default is there, and clears its siblings.
  pub default_clears : Means two_choices "0805 1000" (Stored 2 (int 0) NoEntries)
  -- An unknown record clears none.
  pub unknown_clears_none : Means two_choices "0805 2801" (Stored 1 (int 5) (Unknown 5 (Flat (Var 1)) NoEntries))

pub record Extensions : Type 0 where
  -- A number is looked up among the fields and the extensions.
  pub known : Reads extended "a00607" (Stored 100 (int 7) NoEntries) "a00607"
  -- Without the extension it is unknown.
  pub unknown : Reads no_fields "a00607" (Unknown 100 (Flat (Var 7)) NoEntries) "a00607"
  -- An extension's kind is asked as a field's is.
  pub wire_type : Refused extended "a20600"
