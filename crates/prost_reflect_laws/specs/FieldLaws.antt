-- Laws of reading one unknown field.
use Rattle.std.specs.Prelude.{◌≡◌, ◌^◌, ◌<◌, ◌≤◌, ◌⊎◌, ◌∷◌, ◌++◌}
use Rattle.prost_reflect_laws.specs.Common.{ℕ, List, [], AreBytes, Record, Payload, spelled, payload_levels, RecordFront, FieldFront, ValueFront, StandsInField, StandsInValue, DecodeError}
use Rattle.prost_reflect_wire.specs.declared.key.WireType.{WireType}
use Rattle.prost_reflect_wire.specs.declared.error.DecodeError.TheVariants as errors

-- One of the two holds, and not both.
abbrev pub ExactlyUnless : Type 0 → Type 0 → Type 0
ExactlyUnless P Q = (P ⊎ Q) × (P → Q → ⊥)

abbrev pub HasField : ℕ → List ℕ → Type 0
HasField levels bytes = (r : Record) × ((rest : List ℕ) × FieldFront levels r bytes rest)

abbrev pub HasValue : ℕ → ℕ → WireType → List ℕ → Type 0
HasValue levels n w bytes = (p : Payload) × ((rest : List ℕ) × ValueFront n w levels p bytes rest)

-- Bytes begin with a field of at most so many levels, or have a fault there, and never both.
abbrev pub FieldUnlessFault : Type 0
FieldUnlessFault = (levels : ℕ) (bytes : List ℕ) → AreBytes bytes
    → ExactlyUnless (HasField levels bytes) ((e : DecodeError) × StandsInField levels e bytes)

-- The same of a value behind a given key.
abbrev pub ValueUnlessFault : Type 0
ValueUnlessFault = (levels n : ℕ) (w : WireType) (bytes : List ℕ) → 1 ≤ n → n < 2 ^ 29 → AreBytes bytes →
    ExactlyUnless (HasValue levels n w bytes) ((e : DecodeError) × StandsInValue levels n w e bytes)

-- Bytes that begin with a whole field have no fault there but Depth, and that one only if the field nests deeper than the levels.
abbrev pub OnlyTooDeep : Type 0
OnlyTooDeep = (levels : ℕ) (r : Record) (bytes rest : List ℕ) (e : DecodeError) → RecordFront r bytes rest
    → StandsInField levels e bytes
    → (e ≡ errors.Depth) × (levels < payload_levels r.payload)

-- Bytes begin with at most one field, which ends in one place.
abbrev pub OneField : Type 0
OneField = (levels : ℕ) (r s : Record) (bytes rest end : List ℕ) → FieldFront levels r bytes rest
    → FieldFront levels s bytes end
    → (r ≡ s) × (rest ≡ end)

-- What was read and is written again is read again, whatever follows it.
abbrev pub FieldAgain : Type 0
FieldAgain = (levels : ℕ) (r : Record) (bytes rest : List ℕ) → AreBytes bytes → FieldFront levels r bytes rest
    → (tail : List ℕ)
    → FieldFront levels r (spelled (r ∷ []) ++ tail) tail
