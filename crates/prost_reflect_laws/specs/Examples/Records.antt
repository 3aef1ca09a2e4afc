-- Keys, payloads and groups as they are read and written without a type (the encoding guide, "Message Structure", "Length-Delimited Records", "Groups").
use Rattle.std.specs.Prelude.{◌≡◌}
use Rattle.prost_reflect_laws.specs.Common.{[], Some, None, Var, Fix64, Len, Fix32, NoRecords, PlainRecord, GroupRecord, Flat, Group, raw_levels, payload_levels, read, short_body}
use Rattle.prost_reflect_laws.specs.Examples.Words.{hex}

pub record Records : Type 0 where
  -- A varint.
  pub varint : read (hex "1803") ≡ Some (PlainRecord 3 (Var 3) NoRecords)
  -- Eight bytes.
  pub eight_bytes : read (hex "099a9999999999f13f") ≡ Some (PlainRecord 1 (Fix64 (hex "9a9999999999f13f")) NoRecords)
  -- Delimited bytes.
  pub delimited : read (hex "7a0769a6be6db6ff58") ≡ Some (PlainRecord 15 (Len (hex "69a6be6db6ff58")) NoRecords)
  -- A group of three records.
  pub group : read (hex "1b0a0568656c6c6f100a100b1c") ≡ Some (GroupRecord 3 (PlainRecord 1 (Len (hex "68656c6c6f")) (PlainRecord 2 (Var 10) (PlainRecord 2 (Var 11) NoRecords))) NoRecords)
  -- Four bytes.
  pub four_bytes : read (hex "15cdcc0c40") ≡ Some (PlainRecord 2 (Fix32 (hex "cdcc0c40")) NoRecords)
  -- It is written as it was read.
  pub group_back : short_body (GroupRecord 3 (PlainRecord 1 (Len (hex "68656c6c6f")) (PlainRecord 2 (Var 10) (PlainRecord 2 (Var 11) NoRecords))) NoRecords) ≡ hex "1b0a0568656c6c6f100a100b1c"
  -- A record keeps its number's value, and not its spelling.
  pub needless_digits : read (hex "188300") ≡ Some (PlainRecord 3 (Var 3) NoRecords)
  -- So it is written without needless digits.
  pub needless_digits_back : short_body (PlainRecord 3 (Var 3) NoRecords) ≡ hex "1803"
  -- Needless digits of a key.
  pub long_key : read (hex "880001") ≡ Some (PlainRecord 1 (Var 1) NoRecords)
  -- Needless digits of a length.
  pub long_length : read (hex "0a810061") ≡ Some (PlainRecord 1 (Len (hex "61")) NoRecords)
  -- A delimited payload is not looked into.
  pub opaque : read (hex "0a0196") ≡ Some (PlainRecord 1 (Len (hex "96")) NoRecords)
  -- No bytes are no records.
  pub none : read [] ≡ Some NoRecords
  -- An empty payload is a record.
  pub empty_payload : read (hex "0a00") ≡ Some (PlainRecord 1 (Len []) NoRecords)
  -- So is an empty group.
  pub empty_group : read (hex "0b0c") ≡ Some (GroupRecord 1 NoRecords NoRecords)
  -- The greatest number, 536870911.
  pub greatest_number : read (hex "f8ffffff0f00") ≡ Some (PlainRecord 536870911 (Var 0) NoRecords)

pub record Unreadable : Type 0 where
  -- Number 0.
  pub number_zero : read (hex "0000") ≡ None
  -- Wire type 6.
  pub wire_type_six : read (hex "0e") ≡ None
  -- Wire type 7.
  pub wire_type_seven : read (hex "0f") ≡ None
  -- A key of 2^32.
  pub key_too_large : read (hex "808080801000") ≡ None
  -- A key that is cut.
  pub key_cut : read (hex "80") ≡ None
  -- A varint that is cut.
  pub varint_cut : read (hex "0896") ≡ None
  -- A fixed width that is cut.
  pub width_cut : read (hex "0d000000") ≡ None
  -- A length that passes the end.
  pub payload_cut : read (hex "0a0561") ≡ None
  -- A group without its end.
  pub group_unended : read (hex "0b") ≡ None
  -- An end without its group.
  pub end_alone : read (hex "0c") ≡ None
  -- An end of another number.
  pub other_end : read (hex "0b080114") ≡ None

pub record RawLevels : Type 0 where
  -- No group is no level.
  pub plain : payload_levels (Flat (Var 3)) ≡ 0
  -- An empty group is one.
  pub empty_group : payload_levels (Group NoRecords) ≡ 1
  -- A group in a group is two.
  pub group_in_group : raw_levels (GroupRecord 1 (PlainRecord 2 (Var 0) (GroupRecord 3 NoRecords NoRecords)) NoRecords) ≡ 2
  -- The deepest of several counts.
  pub deepest : raw_levels (GroupRecord 1 NoRecords (GroupRecord 2 (GroupRecord 3 NoRecords NoRecords) NoRecords)) ≡ 2
