-- How deep messages and groups may nest (the encoding guide, "Submessages" and "Groups"; the limit on levels is a parser's, and what is said of entries is this library's).
use Rattle.std.specs.Prelude.{◌≡◌}
use Rattle.prost_reflect_laws.specs.Common.{true, false, pos, [], length, Some, NoRecords, GroupRecord, Group, NoEntries, Stored, Unknown, MapValue, NoPairs, Pair, I32, LEVEL_LIMIT, accepts, relayed, levels}
use Rattle.prost_reflect_laws.specs.Examples.Schemas.{examples, my_message, maps, nested_group, no_fields}
use Rattle.prost_reflect_laws.specs.Examples.Words.{hex, nested, times, content, int, ascii, inner}

pub record Levels : Type 0 where
  -- 100 nested messages are accepted and written as they were.
  pub messages : relayed examples LEVEL_LIMIT my_message (nested 100 []) ≡ Some (nested 100 [])
  -- These are 236 bytes.
  pub messages_length : length (nested 100 []) ≡ 236
  -- 101 are refused.
  pub messages_past : accepts examples LEVEL_LIMIT my_message (nested 101 []) ≡ false
  -- Likewise 100 unknown groups.
  pub unknown_groups : relayed examples LEVEL_LIMIT my_message (times 100 0x2b (times 100 0x2c []))
      ≡ Some (times 100 0x2b (times 100 0x2c []))
  -- 101 are refused.
  pub unknown_groups_past : accepts examples LEVEL_LIMIT my_message (times 101 0x2b (times 101 0x2c [])) ≡ false
  -- Likewise 100 known ones.
  pub known_groups : relayed examples LEVEL_LIMIT nested_group (times 100 0x0b (times 100 0x0c []))
      ≡ Some (times 100 0x0b (times 100 0x0c []))
  -- 101 are refused.
  pub known_groups_past : accepts examples LEVEL_LIMIT nested_group (times 101 0x0b (times 101 0x0c [])) ≡ false
  -- Messages and unknown groups count together.
  pub group_at_last : accepts examples LEVEL_LIMIT my_message (nested 99 (hex "2b2c")) ≡ true
  -- One group more is refused.
  pub group_past_last : accepts examples LEVEL_LIMIT my_message (nested 99 (hex "2b2b2c2c")) ≡ false
  -- An entry is no level, and its message value is one, though it is not written.
  pub unwritten_at_last : accepts examples LEVEL_LIMIT maps (nested 99 (hex "1200")) ≡ true
  -- One level further in it is refused.
  pub unwritten_past_last : accepts examples LEVEL_LIMIT maps (nested 100 (hex "1200")) ≡ false
  -- A map of numbers takes no level.
  pub number_map_at_last : accepts examples LEVEL_LIMIT maps (nested 100 (hex "0a00")) ≡ true
  -- What is skipped in an entry counts as unknown records do.
  pub skipped_at_last : accepts examples LEVEL_LIMIT maps (nested 99 (hex "0a021b1c")) ≡ true
  -- One level further in it is refused.
  pub skipped_past_last : accepts examples LEVEL_LIMIT maps (nested 100 (hex "0a021b1c")) ≡ false
  -- With no level left a scalar is accepted.
  pub none_left_scalar : accepts examples 0 my_message (hex "0801") ≡ true
  -- A message is not.
  pub none_left_message : accepts examples 0 my_message (hex "1a00") ≡ false
  -- An unknown group is not.
  pub none_left_group : accepts examples 0 no_fields (hex "0b0c") ≡ false

pub record ContentLevels : Type 0 where
  -- A message inside is one level.
  pub message : levels (content my_message (Stored 3 (inner my_message (Stored 1 (int 5) NoEntries)) NoEntries)) ≡ 1
  -- An unknown group counts.
  pub group : levels (content my_message (Unknown 5 (Group (GroupRecord 1 NoRecords NoRecords)) NoEntries)) ≡ 2
  -- A map's message values count.
  pub message_map : levels (content maps (Stored 2 (MapValue (Pair (I32 (pos 0)) (inner my_message NoEntries) NoPairs)) NoEntries)) ≡ 1
  -- Its other values do not.
  pub number_map : levels (content maps (Stored 1 (MapValue (Pair (ascii "a") (int 1) NoPairs)) NoEntries)) ≡ 0
