-- Bytes merged into a message (the encoding guide, "Last One Wins").
use Rattle.std.specs.Prelude.{◌≡◌, ◌<◌, ◌^◌, ℕ, Bool, true, if◌then◌else◌, List, ◌++◌, length, Some}
use Rattle.prost_reflect_wire.specs.Record.{Record, items}
use Rattle.prost_reflect_wire.specs.Schema.{Schema}
use Rattle.prost_reflect_wire.specs.Content.{Content, schema_of, type_of, entries_of, slot_at, ordered}
use Rattle.prost_reflect_wire.specs.Grammar.{LEVEL_LIMIT, Accepts, allows}
use Rattle.prost_reflect_wire.specs.Meaning.{meaning, decoded}
use Rattle.prost_reflect_wire.specs.Edit.{merged}
use Rattle.prost_reflect_wire.specs.Writing.{records, encoded}

-- The records mean the content to the type: it allows them with so many levels, and more change nothing.
pub record IsMeaningOfRecords (schema : Schema) (T : ℕ) (rs : List Record) (c : Content) : Type 0 where
  pub levels : ℕ
  pub allowed : allows schema levels T rs ≡ true
  pub means : meaning schema levels T rs ≡ c

-- The type accepts the bytes, and they mean the content.
pub record IsMeaningOfBytes (schema : Schema) (T : ℕ) (bytes : List ℕ) (c : Content) : Type 0 where
  pub accepts : Accepts schema LEVEL_LIMIT T bytes
  pub means : decoded schema LEVEL_LIMIT T bytes ≡ Some c

-- Bytes were merged into a message of the type, by what it holds for others before and after.
pub record MergesMeaning (schema : Schema) (T : ℕ) (bytes : List ℕ) (old new : Content) : Type 0 where
  -- The type accepts the bytes.
  pub accepts : Accepts schema LEVEL_LIMIT T bytes
  -- Where the old content's encoding has a length, the records that it is written as, and those of the bytes behind them, mean the new content.
  pub written : length (encoded old) < 2 ^ 64 → IsMeaningOfRecords schema T (records old ++ items accepts.records) new
  -- So do any records that mean the old content, and those of the bytes behind them
  pub behind : (front : List Record) → IsMeaningOfRecords schema T front old
      → IsMeaningOfRecords schema T (front ++ items accepts.records) new
  -- and any bytes that mean it, and these behind them. So pieces of a message that are merged one by one mean what they mean as one.
  pub pieces : (front : List ℕ) → IsMeaningOfBytes schema T front old → IsMeaningOfBytes schema T (front ++ bytes) new
  -- The same record by record, whatever the length of the old content's encoding.
  pub further : new ≡ merged old (items accepts.records)

-- WHAT IS CHANGED

-- At the numbers that pass what another content of the type has, and elsewhere what was there.
pub record IsJoined (test : ℕ → Bool) (old other new : Content) : Type 0 where
  pub schema : schema_of new ≡ schema_of old
  pub type : type_of new ≡ type_of old
  pub slots : (n : ℕ) → slot_at (entries_of new) n ≡ (if test n then slot_at (entries_of other) n else slot_at (entries_of old) n)
  pub order : ordered old ≡ true → ordered other ≡ true → ordered new ≡ true
