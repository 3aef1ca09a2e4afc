-- The laws of faults, each proved as the contract of a function in the module laws::faults.
use Rattle.std.specs.Prelude.{◌≡◌, ◌≢◌, ◌↔◌}
use Rattle.prost_reflect_laws.specs.Common.{ℕ, false, List, AreBytes, Schema, Accepts, accepts, Place, Stands, StandsInMessage, DecodeError}
use Rattle.prost_reflect_wire.specs.declared.error.DecodeError.TheVariants as errors

-- Bytes that are accepted have no fault.
abbrev pub AcceptedHasNoFault : Type 0
AcceptedHasNoFault = (schema : Schema) (levels T : ℕ) (bytes : List ℕ) → AreBytes bytes → Accepts schema levels T bytes
    → (e : DecodeError)
    → StandsInMessage schema T levels e bytes
    → ⊥

-- Bytes are accepted unless they have a fault.
abbrev pub AcceptedUnlessFault : Type 0
AcceptedUnlessFault = (schema : Schema) (levels T : ℕ) (bytes : List ℕ) → AreBytes bytes
    → (accepts schema levels T bytes ≡ false) ↔ ((e : DecodeError) × StandsInMessage schema T levels e bytes)

-- Being out of memory is a fault of no bytes.
abbrev pub MemoryNeverStands : Type 0
MemoryNeverStands = (schema : Schema) (place : Place) → Stands schema errors.OutOfMemory place → ⊥

-- Accepted bytes are refused only out of memory, if each other refusal names a fault that the bytes have.
abbrev pub AcceptedOnlyMemory : Type 0
AcceptedOnlyMemory = (schema : Schema) (levels T : ℕ) (bytes : List ℕ) → AreBytes bytes → Accepts schema levels T bytes
    → (e : DecodeError)
    → (e ≢ errors.OutOfMemory → StandsInMessage schema T levels e bytes)
    → e ≡ errors.OutOfMemory
