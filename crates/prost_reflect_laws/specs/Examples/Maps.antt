-- Maps (the encoding guide, "Maps").
use Rattle.prost_reflect_laws.specs.Common.{pos, negsuc, I32, NoEntries, Stored, MapValue, NoPairs, Pair}
use Rattle.prost_reflect_laws.specs.Examples.Schemas.{my_message, maps, presence_map}
use Rattle.prost_reflect_laws.specs.Examples.Words.{int, ascii, inner, Means, Becomes, Reads, Refused}

pub record Maps : Type 0 where
  -- A later entry with an equal key replaces the value.
  pub last_wins : Reads maps "0a050a01611001 0a050a01611002" (Stored 1 (MapValue (Pair (ascii "a") (int 2) NoPairs)) NoEntries) "0a050a01611002"
  -- It replaces a message whole, and does not merge it.
  pub message_replaced : Means maps "1204 12020805 1200" (Stored 2 (MapValue (Pair (I32 (pos 0)) (inner my_message NoEntries) NoPairs)) NoEntries)
  -- A missing key is the kind's default, a missing value the field's.
  pub empty_entry : Means maps "0a00" (Stored 1 (MapValue (Pair (ascii "") (int 0) NoPairs)) NoEntries)
  -- Both are left out again where the entry's fields have no presence,
  pub empty_entry_back : Becomes maps "0a00" "0a00"
  -- and written where they have it.
  pub presence : Reads presence_map "0a00" (Stored 1 (MapValue (Pair (ascii "") (int 0) NoPairs)) NoEntries) "0a040a001000"
  -- Records of other numbers in an entry are skipped and dropped.
  pub skipped : Reads maps "0a0418031001" (Stored 1 (MapValue (Pair (ascii "") (int 1) NoPairs)) NoEntries) "0a021001"
  -- Groups too.
  pub skipped_group : Reads maps "0a025354" (Stored 1 (MapValue (Pair (ascii "") (int 0) NoPairs)) NoEntries) "0a00"
  -- Of two keys in an entry the last wins.
  pub two_keys : Means maps "0a060a01610a0162" (Stored 1 (MapValue (Pair (ascii "b") (int 0) NoPairs)) NoEntries)
  -- Of two values the last wins.
  pub two_values : Means maps "0a0410011002" (Stored 1 (MapValue (Pair (ascii "") (int 2) NoPairs)) NoEntries)
  -- The value may stand before the key.
  pub value_first : Becomes maps "0a0510010a0161" "0a050a01611001"
  -- A message value that is not written is an empty message.
  pub unwritten : Reads maps "1200" (Stored 2 (MapValue (Pair (I32 (pos 0)) (inner my_message NoEntries) NoPairs)) NoEntries) "12021200"
  -- The records of one entry's message value join.
  pub value_joins : Reads maps "120a0801 12020805 12021042" (Stored 2 (MapValue (Pair (I32 (pos 1)) (inner my_message (Stored 1 (int 5) (Stored 2 (int 66) NoEntries))) NoPairs)) NoEntries) "12080801120408051042"
  -- Keys ascend: texts by their bytes,
  pub keys_ascend : Becomes maps "0a050a01621001 0a050a01611002" "0a050a016110020a050a01621001"
  -- and numbers with their sign.
  pub signed_keys : Reads maps "12020801 120b08ffffffffffffffffff01" (Stored 2 (MapValue (Pair (I32 (negsuc 0)) (inner my_message NoEntries) (Pair (I32 (pos 1)) (inner my_message NoEntries) NoPairs))) NoEntries) "120d08ffffffffffffffffff011200120408011200"
  -- A varint is no entry.
  pub wire_type : Refused maps "0805"
  -- A group is no entry.
  pub group_for_entry : Refused maps "0b0c"
  -- A key of another wire type.
  pub key_wire_type : Refused maps "0a020801"
  -- A value of another wire type.
  pub value_wire_type : Refused maps "0a021200"
  -- A key that is no UTF-8.
  pub key_text : Refused maps "0a030a01ff"
  -- An entry that is cut.
  pub entry_cut : Refused maps "0a0108"
