-- The numbers of the records of bytes.
use Rattle.std.specs.Prelude.{◌≡◌, ◌≤◌, ℕ, true, List}
use Rattle.std.specs.List.{list_all}
use Rattle.std.specs.BTreeSet.{BTreeSet}
use Rattle.prost_reflect_wire.specs.Record.{Payload, Record, record_at, Spells, body_of, raw_levels}
use Rattle.prost_reflect_wire.specs.Front.{FieldFront}
use Rattle.prost_reflect_wire.specs.Grammar.{LEVEL_LIMIT}
use Rattle.prost_reflect_maps.specs.NumberSets.{has}

-- A record of the number stands in front, and the rest behind it.
pub record BeginsWith (n : ℕ) (bytes rest : List ℕ) : Type 0 where
  pub payload : Payload
  pub front : FieldFront LEVEL_LIMIT (record_at n payload) bytes rest

-- The set has the number of each record that the bytes spell, of records that nest within the limit.
pub record HasNumbersOf (bytes : List ℕ) (numbers : BTreeSet ℕ) : Type 0 where
  pub each : (rs : List Record) → Spells (body_of rs) bytes → raw_levels (body_of rs) ≤ LEVEL_LIMIT
      → list_all (λ r. has numbers r.number) rs ≡ true
