-- What relaying answers: bytes are read by an older message type and written again, and what newer types read of it (the encoding guide's account of unknown fields, "Updating A Message Type").
use Rattle.std.specs.Prelude.{◌≡◌, ◌≤◌, ◌^◌, ◌%◌, ℕ, List, length, Some, Ok, ⊤}
use Rattle.std.specs.List.{AllPass}
use Rattle.hex.specs.Hex.{decode_of, encode_lower, is_hex_digit}
use Rattle.hex.specs.declared.error.FromHexError.{FromHexError}
use Rattle.hex.specs.declared.error.FromHexError.TheVariants as hex_errors
use Rattle.prost_reflect_wire.specs.declared.error.DecodeError.TheVariants as decode_errors
use Rattle.prost_reflect_wire.specs.declared.error.EncodeError.TheVariants as encode_errors
use Rattle.prost_reflect_wire.specs.Schema.{Schema}
use Rattle.prost_reflect_wire.specs.Content.{Content, schema_of, type_of}
use Rattle.prost_reflect_wire.specs.Grammar.{LEVEL_LIMIT, Accepts}
use Rattle.prost_reflect_wire.specs.Meaning.{decoded}
use Rattle.prost_reflect_wire.specs.Typing.{kept, WellStored}
use Rattle.prost_reflect_wire.specs.Writing.{encoded}
use Rattle.prost_reflect_wire.specs.Reduction.{Reduced}
use Rattle.prost_reflect_dynamic.specs.ReadBack.{IsFaulty, MeansSame}
use Rattle.prost_reflect.specs.declared.relaying.RelayError.{RelayError}
use Rattle.prost_reflect.specs.declared.relaying.RelayError.TheVariants.{Decode, Encode}
use Rattle.prost_reflect.specs.declared.relaying.RelayHexError.{RelayHexError}
use Rattle.prost_reflect.specs.declared.relaying.RelayHexError.TheVariants.{Hex, Relay, OutOfMemory}

-- BYTES

-- The type accepts the bytes, and they mean what is kept of this content, which is of the type and well-stored.
pub record IsReadBy (schema : Schema) (T : ℕ) (bytes : List ℕ) (stored : Content) : Type 0 where
  pub accepts : Accepts schema LEVEL_LIMIT T bytes
  pub means : decoded schema LEVEL_LIMIT T bytes ≡ Some (kept stored)
  pub schema_is : schema_of stored ≡ schema
  pub type_is : type_of stored ≡ T
  pub sound : WellStored stored

-- The type accepts the bytes, and these are the encoding of what they mean.
pub record IsRelayed (schema : Schema) (T : ℕ) (bytes written : List ℕ) : Type 0 where
  pub content : Content
  pub accepts : Accepts schema LEVEL_LIMIT T bytes
  pub means : decoded schema LEVEL_LIMIT T bytes ≡ Some content
  pub encoding : written ≡ encoded content

-- That encoding is longer than a length can say.
pub record PassesLength (schema : Schema) (T : ℕ) (bytes : List ℕ) : Type 0 where
  pub written : List ℕ
  pub relayed : IsRelayed schema T bytes written
  pub passes : 2 ^ 64 ≤ length written

-- Why bytes are not relayed. Out of memory may come anywhere.
abbrev pub RefusesRelay : Schema → ℕ → List ℕ → RelayError → Type 0
RefusesRelay schema T bytes (Decode decode_errors.OutOfMemory) = ⊤
RefusesRelay schema T bytes (Decode e) = IsFaulty schema T e bytes
RefusesRelay schema T bytes (Encode encode_errors.OutOfMemory) = ⊤
RefusesRelay schema T bytes (Encode encode_errors.TooLong) = PassesLength schema T bytes

-- NEWER TYPES

-- What a newer type accepts, of which the older one is a reduction, the older one accepts.
abbrev pub OlderAccepts : Schema → ℕ → List ℕ → Type 0
OlderAccepts older A bytes = (newer : Schema) (B : ℕ) → Reduced older A newer B → Accepts newer LEVEL_LIMIT B bytes
    → Accepts older LEVEL_LIMIT A bytes

-- To each such type that accepts the bytes, what is written means what they do.
abbrev pub Passes : Schema → ℕ → List ℕ → List ℕ → Type 0
Passes older A bytes written = (newer : Schema) (B : ℕ) → Reduced older A newer B → Accepts newer LEVEL_LIMIT B bytes
    → MeansSame newer B bytes written

-- HEX DIGITS

-- An even number of hex digits.
abbrev pub IsHex : List ℕ → Type 0
IsHex text = (length text % 2 ≡ 0) × AllPass is_hex_digit text

-- The text is that, and spells the bytes.
pub record SpellsBytes (text bytes : List ℕ) : Type 0 where
  pub digits : IsHex text
  pub spelled : decode_of text ≡ Ok bytes

-- The lower-case digits of what the bytes are relayed as, which newer types read as they do.
pub record IsRelayedHex (schema : Schema) (T : ℕ) (text digits : List ℕ) : Type 0 where
  pub bytes : List ℕ
  pub written : List ℕ
  pub spells : SpellsBytes text bytes
  pub relayed : IsRelayed schema T bytes written
  pub passes : Passes schema T bytes written
  pub printed : digits ≡ encode_lower written

pub record RefusesSpelled (schema : Schema) (T : ℕ) (text : List ℕ) (e : RelayError) : Type 0 where
  pub bytes : List ℕ
  pub spells : SpellsBytes text bytes
  pub refuses : RefusesRelay schema T bytes e

-- Why a text is not relayed.
abbrev pub RefusesHex : Schema → ℕ → List ℕ → RelayHexError → Type 0
RefusesHex schema T text Hex = IsHex text → ⊥
RefusesHex schema T text (Relay e) = RefusesSpelled schema T text e
RefusesHex schema T text OutOfMemory = ⊤

-- What a refused text becomes.
abbrev pub hex_refusal : FromHexError → RelayHexError
hex_refusal hex_errors.OutOfMemory = OutOfMemory
hex_refusal e = Hex
