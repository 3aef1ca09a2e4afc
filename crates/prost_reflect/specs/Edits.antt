-- What editing through an older message type answers: a value is set at a path in what bytes mean to it, and what newer types read of what is written (the encoding guide's account of unknown fields, "Updating A Message Type").
use Rattle.std.specs.Prelude.{◌≡◌, ◌≤◌, ◌^◌, ℕ, Bool, true, false, if◌then◌else◌, List, length, Option, Some, None, ⊤}
use Rattle.prost_reflect_wire.specs.declared.error.DecodeError.TheVariants as decode_errors
use Rattle.prost_reflect_wire.specs.declared.error.EncodeError.TheVariants as encode_errors
use Rattle.prost_reflect_wire.specs.Varint.{◌>>=◌}
use Rattle.prost_reflect_wire.specs.Schema.{Field, Schema, schema_valid}
use Rattle.prost_reflect_wire.specs.Content.{Value, ScalarValue, MessageValue, ListValue, MapValue}
use Rattle.prost_reflect_wire.specs.Grammar.{LEVEL_LIMIT, Accepts}
use Rattle.prost_reflect_wire.specs.Meaning.{decoded}
use Rattle.prost_reflect_wire.specs.Typing.{value_valid}
use Rattle.prost_reflect_wire.specs.Edit.{set_at, holds_message, edited}
use Rattle.prost_reflect_wire.specs.Reduction.{Reduced}
use Rattle.prost_reflect_rows.specs.Paths.{field_led}
use Rattle.prost_reflect_dynamic.specs.ReadBack.{IsFaulty}
use Rattle.prost_reflect.specs.declared.relaying.edit.RelayWithError.{RelayWithError}
use Rattle.prost_reflect.specs.declared.relaying.edit.RelayWithError.TheVariants.{NotFound, InvalidType, HoldsMessage, Decode, Encode, OutOfMemory}

-- BEFORE A BYTE IS READ

-- Why a value is not set at a field, or where none is found.
abbrev pub value_refusal : Option Field → Value → Option RelayWithError
value_refusal None v = Some NotFound
value_refusal (Some f) v = if value_valid f v then (if holds_message v then Some HoldsMessage else None) else Some InvalidType

-- Why it is not set at a path: the first of no field, a value that doesn't fit it, and one that holds a message.
abbrev pub edit_refusal : Schema → ℕ → List ℕ → Value → Option RelayWithError
edit_refusal schema T path v = value_refusal (field_led schema T path) v

abbrev pub is_message : Value → Bool
is_message (MessageValue c) = true
is_message (ScalarValue v) = false
is_message (ListValue vs) = false
is_message (MapValue ps) = false

-- BYTES

-- The type accepts the bytes, and these are the encoding of what they mean with the value set at the path.
pub record IsEdited (schema : Schema) (T : ℕ) (bytes path : List ℕ) (v : Value) (written : List ℕ) : Type 0 where
  pub accepts : Accepts schema LEVEL_LIMIT T bytes
  pub encoding : edited schema LEVEL_LIMIT T bytes path v ≡ Some written

-- That encoding is longer than a length can say.
pub record EditPassesLength (schema : Schema) (T : ℕ) (bytes path : List ℕ) (v : Value) : Type 0 where
  pub written : List ℕ
  pub edited : IsEdited schema T bytes path v written
  pub passes : 2 ^ 64 ≤ length written

-- Why a value is not set in bytes. Out of memory may come anywhere.
abbrev pub RefusesEdit : Schema → ℕ → List ℕ → List ℕ → Value → RelayWithError → Type 0
RefusesEdit schema T bytes path v (Decode decode_errors.OutOfMemory) = ⊤
RefusesEdit schema T bytes path v (Decode e) = IsFaulty schema T e bytes
RefusesEdit schema T bytes path v (Encode encode_errors.OutOfMemory) = ⊤
RefusesEdit schema T bytes path v (Encode encode_errors.TooLong) = EditPassesLength schema T bytes path v
RefusesEdit schema T bytes path v OutOfMemory = ⊤
RefusesEdit schema T bytes path v e = edit_refusal schema T path v ≡ Some e

-- NEWER TYPES

-- To a type what is written means what the bytes do, with the value set at the path.
pub record MeansEdited (schema : Schema) (T : ℕ) (bytes path : List ℕ) (v : Value) (written : List ℕ) : Type 0 where
  pub accepts : Accepts schema LEVEL_LIMIT T written
  pub same : decoded schema LEVEL_LIMIT T written ≡ (decoded schema LEVEL_LIMIT T bytes >>= λ c. Some (set_at path v c))

-- It does to each newer type of a checked schema that accepts the bytes, and of which the older one is a reduction.
abbrev pub PassesEdit : Schema → ℕ → List ℕ → List ℕ → Value → List ℕ → Type 0
PassesEdit older A bytes path v written = (newer : Schema) (B : ℕ) → schema_valid newer ≡ true → Reduced older A newer B
    → Accepts newer LEVEL_LIMIT B bytes
    → MeansEdited newer B bytes path v written
