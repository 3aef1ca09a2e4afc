-- For each law that has premises, a worked example at which all of them hold at once, so that no law is empty. Where the conclusion is a new one, it stands behind.
use Rattle.std.specs.Prelude.{◌≡◌, ◌≢◌, ◌≤◌, ◌<◌, ◌^◌, ◌∷◌, ◌++◌}
use Rattle.prost_reflect_laws.specs.Common.{ℕ, true, false, pos, negsuc, List, [], length, Some, AreBytes, Var, Records, NoRecords, PlainRecord, Record, Spells, record_at, body_of, valid, payload_valid, short_body, read, I32, EnumNumber, Int32, ScalarKind, Enum, Closed, scalar_valid, elem, is_undeclared, known, schema_valid, Content, NoEntries, Stored, Unknown, LEVEL_LIMIT, Accepts, accepts, allows, meaning, decoded, steps, records, encoded, levels, WellStored, WellTyped, kept, merged, set_at, PathTo, StandsInMessage}
use Rattle.prost_reflect_laws.specs.Laws.{Apart, Writable, Spellable, StaysWell}
use Rattle.prost_reflect_laws.specs.Examples.Schemas.{examples, my_message, choice, two_choices}
use Rattle.prost_reflect_laws.specs.Examples.Words.{hex, content, int, inner, varint, delimited}
use Rattle.prost_reflect_wire.specs.declared.error.DecodeError.TheVariants as errors

-- A MyMessage that has a value at each number, in a message inside too, and an unknown record.
abbrev pub sample : Content
sample = content my_message (Stored 1 (int 5) (Stored 2 (int 66) (Stored 3 (inner my_message (Stored 1 (int 1) NoEntries)) (Unknown 5 (varint 1) NoEntries))))

-- A MyMessage in two pieces.
abbrev pub front : List Record
front = record_at 1 (varint 5) ∷ record_at 3 (delimited "0801") ∷ []

abbrev pub behind : List Record
behind = record_at 3 (delimited "1042") ∷ record_at 1 (varint 7) ∷ []

-- The key has a needless digit.
abbrev pub one : Records
one = PlainRecord 1 (Var 1) NoRecords

abbrev pub needless : List ℕ
needless = hex "880001"

-- Contents that store what says nothing, and two members of a oneof.
abbrev pub stores_defaults : Content
stores_defaults = content my_message (Stored 1 (int 0) (Stored 3 (inner my_message (Stored 1 (int 0) NoEntries)) NoEntries))

abbrev pub two_members : Content
two_members = content choice (Stored 1 (int 1) (Stored 2 (inner my_message NoEntries) NoEntries))

abbrev pub two_numbers : ScalarKind
two_numbers = Enum (pos 0) (Closed (pos 0 ∷ pos 1 ∷ []))

-- Records that have a spelling, and that MyMessage takes with so many levels left.
pub record Taken (k : ℕ) (rs : List Record) : Type 0 where
  pub checked : schema_valid examples ≡ true
  pub valid : valid (body_of rs) ≡ true
  pub allowed : allows examples k my_message rs ≡ true

-- A well-typed content of at most so many levels.
pub record Low (k : ℕ) (c : Content) : Type 0 where
  pub typed : WellTyped c
  pub low : levels c ≤ k

pub record OfReading : Type 0 where
  -- What is read spells, with a needless digit in the key; so bytes spell one list of records.
  pub read_is_spells : AreBytes needless × (read needless ≡ Some one)
  -- These records spell them.
  pub one_reading : Spells one needless
  -- Their spelling without needless digits.
  pub written_spells : (valid one ≡ true) × Spells one (short_body one)
  -- Bytes that are accepted, by the test
  pub accepts_is_test : AreBytes (hex "1a0408051042") × (accepts examples 1 my_message (hex "1a0408051042") ≡ true)
  -- and by the relation.
  pub accepted : Accepts examples 1 my_message (hex "1a0408051042")
  -- A declared number of a closed enum is read.
  pub read_valid : (payload_valid (varint 1) ≡ true) × (is_undeclared two_numbers (varint 1) ≡ false)
      × (elem two_numbers (varint 1) ≡ Some (EnumNumber (pos 1)))

pub record OfMeaning : Type 0 where
  -- Members of different oneofs commute.
  pub commute : Apart (known examples two_choices) 1 3
  -- One record that means what two do, where the last wins.
  pub same_behind : meaning examples 0 my_message (record_at 1 (varint 1) ∷ record_at 1 (varint 2) ∷ [])
      ≡ meaning examples 0 my_message (record_at 1 (varint 2) ∷ [])
  -- Records that are allowed with one level left. The laws on levels and on what is read cite them.
  pub taken : Taken 1 front
  -- What they mean with another level
  pub levels_free : (1 ≤ 2) × (meaning examples 1 my_message front ≡ meaning examples 2 my_message front)
  -- is allowed there.
  pub allowed_further : allows examples 2 my_message front ≡ true
  -- What they mean is well-typed, of one level.
  pub meaning_typed : Low 1 (meaning examples 1 my_message front)
  -- Records behind a content that is well-typed.
  pub steps_well : Low 1 sample × Taken 1 behind
  -- It stays so.
  pub stepped : StaysWell 1 sample (steps 1 sample behind)
  -- Records that the limit allows,
  pub merged_well : Low 1 sample × Taken LEVEL_LIMIT behind
  -- merged into it.
  pub merged_stays : StaysWell 100 sample (merged sample behind)
  -- With more levels the same is made of it.
  pub steps_free : steps 1 sample behind ≡ steps 2 sample behind
  -- Two pieces, of which the first is allowed with fewer levels.
  pub pieces : Taken 1 front × Taken LEVEL_LIMIT behind × (1 ≤ LEVEL_LIMIT) × (LEVEL_LIMIT ≤ LEVEL_LIMIT)
  -- They join, by the merge
  pub pieces_merged : merged (meaning examples 1 my_message front) behind ≡ meaning examples LEVEL_LIMIT my_message (front ++ behind)
  -- and record by record.
  pub pieces_join : steps LEVEL_LIMIT (meaning examples 1 my_message front) behind
      ≡ meaning examples LEVEL_LIMIT my_message (front ++ behind)
  -- A piece that means a content whose bytes have a length, and others behind it.
  pub written_pieces : Taken 1 front × (length (encoded (meaning examples 1 my_message front)) < 2 ^ 64) × (1 ≤ LEVEL_LIMIT)
  -- Its content's records may stand for it.
  pub pieces_written : meaning examples LEVEL_LIMIT my_message (records (meaning examples 1 my_message front) ++ behind)
      ≡ meaning examples LEVEL_LIMIT my_message (front ++ behind)
  -- Pieces that the limit allows, merged into a content one behind the other.
  pub merges_join : Low 1 sample × Taken LEVEL_LIMIT behind × Taken LEVEL_LIMIT front
  -- They are merged as one.
  pub merges_joined : merged (merged sample behind) front ≡ merged sample (behind ++ front)

pub record OfContents : Type 0 where
  -- A stored message may hold defaults, at each depth.
  pub kept_well : WellStored stores_defaults
  -- What is kept of it is well-typed.
  pub kept_typed : WellTyped (kept stores_defaults)
  -- A content that is well-typed.
  pub kept_content : WellTyped sample
  -- A path into the message inside.
  pub set_well : (schema_valid examples ≡ true) × WellTyped sample × PathTo examples my_message (3 ∷ 2 ∷ []) (int 7)
  -- The content behind the set.
  pub set_typed : WellTyped (set_at (3 ∷ 2 ∷ []) (int 7) sample)

pub record OfWriting : Type 0 where
  -- A negative number of a kind.
  pub written_is_read : scalar_valid Int32 (I32 (negsuc 0)) ≡ true
  -- A content of one level, whose bytes have a length.
  pub round_trip : Writable sample × (levels sample ≤ 1)
  -- Its bytes are accepted with one level
  pub round_accepted : Accepts examples 1 my_message (encoded sample)
  -- and not with none.
  pub round_refused : Accepts examples 0 my_message (encoded sample) → ⊥
  -- They mean it,
  pub round_decoded : decoded examples 1 my_message (encoded sample) ≡ Some sample
  -- as its records do,
  pub records_mean : meaning examples 1 my_message (records sample) ≡ sample
  -- which are allowed,
  pub records_allowed : allows examples 1 my_message (records sample) ≡ true
  -- and which the bytes spell.
  pub encoded_spells : Spells (body_of (records sample)) (encoded sample)
  -- Records merged into it mean what they mean behind its own.
  pub merged_means : merged sample behind ≡ meaning examples 100 my_message (records sample ++ behind)
  -- Bytes with a needless digit,
  pub normal_form : AreBytes needless × (schema_valid examples ≡ true)
      × (decoded examples 0 my_message needless ≡ Some (content my_message (Stored 1 (int 1) NoEntries)))
  -- which are decoded as a well-typed content
  pub decoded_well : Low 0 (content my_message (Stored 1 (int 1) NoEntries))
  -- whose bytes have a length.
  pub normal_length : length (encoded (content my_message (Stored 1 (int 1) NoEntries))) < 2 ^ 64
  -- These are others, and mean the same.
  pub normal_again : decoded examples 0 my_message (hex "0801") ≡ Some (content my_message (Stored 1 (int 1) NoEntries))
  -- Canonical: also a content of two members of one oneof,
  pub canonicity : Spellable two_members
  -- and one that stores defaults.
  pub canonicity_defaults : Spellable stores_defaults

pub record OfFaults : Type 0 where
  -- Bytes that are accepted: they have no fault, and are refused only out of memory.
  pub accepted : AreBytes (hex "0801") × Accepts examples 0 my_message (hex "0801")
  -- If each other refusal names a fault that they have: of being out of memory itself nothing is asked.
  pub accepted_only_memory : errors.OutOfMemory ≢ errors.OutOfMemory → StandsInMessage examples my_message 0 errors.OutOfMemory (hex "0801")
  -- Bytes that are not accepted,
  pub accepted_unless_fault : AreBytes (hex "0896") × (accepts examples 0 my_message (hex "0896") ≡ false)
  -- and the fault that they have.
  pub fault : StandsInMessage examples my_message LEVEL_LIMIT errors.Truncated (hex "0896")
