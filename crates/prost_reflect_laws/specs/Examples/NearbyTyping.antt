-- Statements near the laws on what is read, merged, kept and set that do not hold, each refuted by a worked example.
use Rattle.std.specs.Prelude.{◌≡◌, ◌∷◌, ◌++◌}
use Rattle.prost_reflect_laws.specs.Common.{true, false, pos, List, [], Some, NoRecords, Group, Record, record_at, body_of, valid, I32, Schema, MapFrom, schema_valid, Content, ContentOf, NoEntries, Stored, Value, ScalarValue, MapValue, NoPairs, Pair, LEVEL_LIMIT, accepts, allows, meaning, decoded, steps, records, levels, WellStored, WellTyped, Typed, kept, encodable, exclusive, merged, set_at}
use Rattle.prost_reflect_laws.specs.Examples.Schemas.{examples, message, field, int32, my_message, maps, closed}
use Rattle.prost_reflect_laws.specs.Examples.Words.{hex, content, int, ascii, inner, varint, delimited}
use Rattle.prost_reflect_laws.specs.Examples.Instances.{sample, front, behind, stores_defaults, two_members, Low, Taken}
use Rattle.prost_reflect_laws.specs.Examples.NearbyMeaning.{deep}

abbrev pub descending : List Record
descending = record_at 2 (varint 66) ∷ record_at 1 (varint 5) ∷ []

-- A stray of a map, whose key is of another wire type.
abbrev pub bad_entry : List Record
bad_entry = record_at 3 (delimited "08011007") ∷ []

-- No field has number 0.
abbrev pub numbered_zero : List Record
numbered_zero = record_at 0 (varint 1) ∷ []

abbrev pub unknown_group : List Record
unknown_group = record_at 5 (Group NoRecords) ∷ []

-- A map with an entry of two defaults.
abbrev pub one_entry : Content
one_entry = content maps (Stored 1 (MapValue (Pair (ascii "") (int 0) NoPairs)) NoEntries)

-- { map<int32, int32> m = 1; }, where a value has presence, and a text for its default, which no check passes.
abbrev pub text_default : Schema
text_default = message (field 1 (MapFrom (int32 false)) (record (int32 true) { default = ascii "" }) ∷ []) ∷ []

abbrev pub text_entry : Content
text_entry = ContentOf text_default 0 (Stored 1 (MapValue (Pair (I32 (pos 0)) (ScalarValue (ascii "")) NoPairs)) NoEntries)

abbrev pub number_as_text : Value
number_as_text = ScalarValue (ascii "5")

pub record NotOfTyping : Type 0 where
  -- The order of records is lost, as numbers ascend in what is read: its records are others.
  pub meaning_ordered : records (meaning examples 0 my_message descending) ≡ descending → ⊥
  -- What records mean that are not allowed may fit no type,
  pub meaning_typed : (valid (body_of bad_entry) ≡ true) × (allows examples 1 closed bad_entry ≡ false)
      × (encodable (meaning examples 1 closed bad_entry) ≡ false)
  -- and what records mean that have no spelling.
  pub meaning_spelled : (valid (body_of numbered_zero) ≡ false) × (allows examples 0 my_message numbered_zero ≡ true)
      × (encodable (meaning examples 0 my_message numbered_zero) ≡ false)
  -- Of a type that no check passes, what is decoded may fit no type.
  pub decoded_well : (schema_valid text_default ≡ false) × (decoded text_default 0 0 (hex "0a00") ≡ Some text_entry) × (encodable text_entry ≡ false)
  -- Records that are not allowed may mean a content of more levels.
  pub meaning_levels : (allows examples 0 my_message unknown_group ≡ false) × (levels (meaning examples 0 my_message unknown_group) ≡ 1)
  -- What bytes mean may have fewer levels than the bytes need: a group is skipped in an entry.
  pub levels_of_bytes : (decoded examples 1 maps (hex "0a025354") ≡ Some one_entry) × (levels one_entry ≡ 0) × (accepts examples 0 maps (hex "0a025354") ≡ false)
  -- Fewer levels refuse records that more allow.
  pub allowed_further : (allows examples 1 my_message front ≡ true) × (allows examples 0 my_message front ≡ false)
  -- With fewer levels something else is made of a content.
  pub steps_free : Low 1 sample × Taken 1 behind × (steps 1 sample behind ≡ steps 0 sample behind → ⊥)
  -- A content that nests deeper than the levels that are left still does behind more records.
  pub steps_well : (levels sample ≡ 1) × (levels (steps 0 sample []) ≡ 1)
  -- Merging makes no content well-typed that was not.
  pub merged_well : (exclusive two_members ≡ false) × (exclusive (merged two_members []) ≡ false)
  -- What is merged may nest deeper than the limit.
  pub merged_levels : WellTyped (content my_message (deep 101)) × (levels (merged (content my_message (deep 101)) []) ≡ 101)
  -- Pieces do not join with fewer levels than the first is allowed with,
  pub pieces_levels : (allows examples 1 my_message front ≡ true)
      × (steps 0 (meaning examples 1 my_message front) [] ≡ meaning examples 0 my_message (front ++ []) → ⊥)
  -- nor where the first is not allowed.
  pub pieces_allowed : (allows examples 0 my_message front ≡ false)
      × (allows examples LEVEL_LIMIT my_message behind ≡ true)
      × (merged (meaning examples 0 my_message front) behind ≡ meaning examples LEVEL_LIMIT my_message (front ++ behind)
      → ⊥)
  -- The records of what pieces mean that are not allowed do not stand for them.
  pub written_pieces : (allows examples 0 my_message front ≡ false)
      × (meaning examples 1 my_message (records (meaning examples 0 my_message front) ++ [])
      ≡ meaning examples 1 my_message (front ++ [])
      → ⊥)
  -- Pieces are not merged in any order.
  pub merges_join : merged (merged sample behind) front ≡ merged sample (front ++ behind) → ⊥

pub record NotOfContents : Type 0 where
  -- What is kept is not all that a message stores.
  pub kept_all : WellStored stores_defaults × (kept stores_defaults ≡ stores_defaults → ⊥)
  -- All is kept of two members of a oneof, which are not well-typed.
  pub kept_content : (kept two_members ≡ two_members) × (exclusive two_members ≡ false)
  -- What is kept of them is not either.
  pub kept_well : (encodable two_members ≡ true) × (exclusive (kept two_members) ≡ false)
  -- A set of a value that does not fit its field leaves a content that does not fit.
  pub set_fits : WellTyped sample × (encodable (set_at (1 ∷ []) number_as_text sample) ≡ false)
  -- A message of another type fits the field, and what it is set in is not typed.
  pub set_typed : (encodable (set_at (3 ∷ []) (inner maps NoEntries) sample) ≡ true)
      × (Typed (set_at (3 ∷ []) (inner maps NoEntries) sample) → ⊥)
