-- What is read of the encoding of a content, which contents have it, and what bytes are not read.
use Rattle.std.specs.Prelude.{◌≡◌, ℕ, ◌≤◌, ◌<◌, ◌^◌, ◌↔◌, List, length, Some}
use Rattle.prost_reflect_wire.specs.declared.error.DecodeError.{DecodeError}
use Rattle.prost_reflect_wire.specs.Schema.{Schema}
use Rattle.prost_reflect_wire.specs.Content.{Content, schema_of, type_of}
use Rattle.prost_reflect_wire.specs.Grammar.{LEVEL_LIMIT, Accepts}
use Rattle.prost_reflect_wire.specs.Meaning.{decoded}
use Rattle.prost_reflect_wire.specs.Fault.{StandsInMessage}
use Rattle.prost_reflect_wire.specs.Writing.{encoded}
use Rattle.prost_reflect_wire.specs.Levels.{levels}
use Rattle.prost_reflect_wire.specs.Typing.{Fitting}

-- Within so many levels its type accepts the bytes exactly if it nests no deeper, and then they mean it.
abbrev pub ReadsBack : Content → List ℕ → Type 0
ReadsBack c bytes = (k : ℕ)
    → (Accepts (schema_of c) k (type_of c) bytes ↔ (levels c ≤ k))
    × (levels c ≤ k → decoded (schema_of c) k (type_of c) bytes ≡ Some c)

-- Of all contents of its type that fit, and whose encoding has a length, the bytes are the encoding of this one alone.
abbrev pub IsOnlyOf : Content → List ℕ → Type 0
IsOnlyOf c bytes = (d : Content) → schema_of d ≡ schema_of c → type_of d ≡ type_of c → Fitting d
    → length (encoded d) < 2 ^ 64
    → (bytes ≡ encoded d) ↔ (d ≡ c)

-- Bytes that mean to a type what others do.
pub record MeansSame (schema : Schema) (T : ℕ) (bytes written : List ℕ) : Type 0 where
  pub accepts : Accepts schema LEVEL_LIMIT T written
  pub same : decoded schema LEVEL_LIMIT T written ≡ decoded schema LEVEL_LIMIT T bytes

-- A fault stands in the bytes, so the type does not accept them.
pub record IsFaulty (schema : Schema) (T : ℕ) (e : DecodeError) (bytes : List ℕ) : Type 0 where
  pub stands : StandsInMessage schema T LEVEL_LIMIT e bytes
  pub refused : Accepts schema LEVEL_LIMIT T bytes → ⊥
