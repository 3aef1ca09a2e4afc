-- Statements near the laws on meaning and on writing that do not hold, each refuted by a worked example: a law without one of its premises, its converse, or its neighbour.
use Rattle.std.specs.Prelude.{◌≡◌, ◌∷◌, ◌++◌}
use Rattle.prost_reflect_laws.specs.Common.{ℕ, zero, suc, true, false, List, [], Some, Record, record_at, body_of, Spells, Schema, Singular, known, schema_valid, Content, ContentOf, Entries, NoEntries, Stored, ScalarValue, LEVEL_LIMIT, accepts, allows, meaning, decoded, records, encoded, levels, WellTyped, kept, merged}
use Rattle.prost_reflect_laws.specs.Laws.{Apart, Writable}
use Rattle.prost_reflect_laws.specs.Examples.Schemas.{examples, message, field, int32, my_message, packed_list, choice, plain_a}
use Rattle.prost_reflect_laws.specs.Examples.Words.{content, int, ascii, inner, list_of, varint, delimited}
use Rattle.prost_reflect_laws.specs.Examples.Instances.{front, behind, two_members, needless}

-- A MyMessage in a MyMessage, so many times.
abbrev pub deep : ℕ → Entries
deep zero = NoEntries
deep (suc k) = Stored 3 (inner my_message (deep k)) NoEntries

abbrev pub stored_default : Content
stored_default = content my_message (Stored 1 (int 0) NoEntries)

-- A record of each member of a choice.
abbrev pub a_record : Record
a_record = record_at 1 (varint 1)

abbrev pub b_record : Record
b_record = record_at 2 (delimited "1042")

-- What records mean to a choice, and to a MyMessage where no level is left.
abbrev pub choice_meaning : List Record → Content
choice_meaning rs = meaning examples 1 choice rs

abbrev pub message_meaning : List Record → Content
message_meaning rs = meaning examples 0 my_message rs

-- A type with a field of number 0, which no check passes, and a content of it.
abbrev pub zero_field : Schema
zero_field = message (field 0 Singular (int32 true) ∷ []) ∷ []

abbrev pub zero_content : Content
zero_content = ContentOf zero_field 0 (Stored 0 (int 1) NoEntries)

abbrev pub text_in_number : Content
text_in_number = content my_message (Stored 1 (ScalarValue (ascii "5")) NoEntries)

abbrev pub one_content : Content
one_content = content my_message (Stored 1 (int 1) NoEntries)

pub record NotOfMeaning : Type 0 where
  -- Records of members of one oneof do not commute,
  pub members_commute : choice_meaning (a_record ∷ b_record ∷ []) ≡ choice_meaning (b_record ∷ a_record ∷ []) → ⊥
  -- for they are not apart.
  pub members_apart : Apart (known examples choice) 1 2 → ⊥
  -- Nor do records of one number.
  pub number_commutes : message_meaning (a_record ∷ record_at 1 (varint 2) ∷ [])
      ≡ message_meaning (record_at 1 (varint 2) ∷ a_record ∷ [])
      → ⊥
  -- Records of one meaning may not stand for one another behind others: no record, and a default.
  pub same_alone : message_meaning [] ≡ message_meaning (record_at 1 (varint 0) ∷ [])
  -- Behind a number the default clears it.
  pub same_in_front : message_meaning (a_record ∷ []) ≡ message_meaning (a_record ∷ record_at 1 (varint 0) ∷ []) → ⊥
  -- Levels change the meaning of records that are not allowed:
  pub not_allowed : allows examples 0 my_message front ≡ false
  -- a message where no level is left is read as empty.
  pub levels_free : meaning examples 0 my_message front ≡ meaning examples 1 my_message front → ⊥
  -- Pieces do not join in the other order, as the last one wins.
  pub pieces_swapped : merged (meaning examples 1 my_message front) behind ≡ merged (meaning examples 1 my_message behind) front → ⊥
  -- What the last piece means does not do for it: its default is lost.
  pub piece_read : merged (message_meaning (a_record ∷ [])) (record_at 1 (varint 0) ∷ []) ≡ merged (message_meaning (a_record ∷ [])) [] → ⊥

pub record NotOfWriting : Type 0 where
  -- Messages that differ in a stored default are written equally,
  pub default_written : encoded (kept stored_default) ≡ encoded (kept (content my_message NoEntries))
  -- so that only of what is kept are they told apart.
  pub default_stored : stored_default ≡ content my_message NoEntries → ⊥
  -- As a content that is no message's, a stored default is not read back.
  pub default_lost : decoded examples 0 my_message (encoded stored_default) ≡ Some (content my_message NoEntries)
  -- Of two members of a oneof one is read back.
  pub member_lost : decoded examples 1 choice (encoded two_members)
      ≡ Some (content choice (Stored 2 (inner my_message NoEntries) NoEntries))
  -- An empty list is written as no list,
  pub list_written : encoded (content packed_list (Stored 1 (list_of []) NoEntries)) ≡ encoded (content packed_list NoEntries)
  -- and is another content.
  pub list_stored : content packed_list (Stored 1 (list_of []) NoEntries) ≡ content packed_list NoEntries → ⊥
  -- Of a type that no check passes the bytes of a well-typed content do not spell its records,
  pub zero_spelled : (schema_valid zero_field ≡ false) × WellTyped zero_content
      × (Spells (body_of (records zero_content)) (encoded zero_content) → ⊥)
  -- and are not accepted within its levels.
  pub zero_refused : (levels zero_content ≡ 0) × (accepts zero_field 0 0 (encoded zero_content) ≡ false)
  -- The records of a content that does not fit are not allowed within its levels.
  pub text_refused : (levels text_in_number ≡ 0) × (allows examples 0 my_message (records text_in_number) ≡ false)
  -- Records merged into two members of a oneof do not mean what they mean behind the records of the two.
  pub member_merged : merged two_members [] ≡ meaning examples LEVEL_LIMIT choice (records two_members ++ []) → ⊥
  -- The bytes that were read are not always written again: here a needless digit goes.
  pub bytes_again : (decoded examples 0 my_message needless ≡ Some one_content) × (encoded one_content ≡ needless → ⊥)
  -- A value at a number that is not known is not written.
  pub value_written : encoded (content my_message (Stored 9 (int 1) NoEntries)) ≡ encoded (content my_message NoEntries)
  -- It is another content.
  pub value_stored : content my_message (Stored 9 (int 1) NoEntries) ≡ content my_message NoEntries → ⊥
  -- Contents of two types are written equally.
  pub type_written : encoded (content my_message (Stored 1 (int 1) NoEntries)) ≡ encoded (content plain_a (Stored 1 (int 1) NoEntries))
  -- They differ.
  pub types_differ : content my_message (Stored 1 (int 1) NoEntries) ≡ content plain_a (Stored 1 (int 1) NoEntries) → ⊥
  -- A content that may be written may nest deeper than the limit
  pub deep_writable : Writable (content my_message (deep 101))
  -- by a level,
  pub deep_levels : levels (content my_message (deep 101)) ≡ 101
  -- and is then not accepted.
  pub deep_refused : accepts examples LEVEL_LIMIT my_message (encoded (content my_message (deep 101))) ≡ false
  -- With another level it is read back.
  pub deep_further : decoded examples 101 my_message (encoded (content my_message (deep 101))) ≡ Some (content my_message (deep 101))
