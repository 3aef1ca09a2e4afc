-- What reads the value behind a key, or names a fault that stands there, reads each value that stands there.
use Rattle.std.specs.Prelude.{◌≡◌, ◌≢◌, ◌≤◌, ◌<◌, ◌^◌}
use Rattle.prost_reflect_wire.proofs.Common.{ℕ, List, Result, Ok, Err, IfOk, IfErr, IsOkAnd, Bor, MatchResult, DecodeError, WireType, UnknownFieldValue, Payload, ValueFront, ValueFault, payload_of, SkipsValue}
use Rattle.prost_reflect_wire.specs.declared.error.DecodeError.TheVariants as errors
use Rattle.prost_reflect_wire.proofs.FieldFaults.{value_no_fault, only_memory}
use Rattle.prost_reflect_wire.proofs.KeyFronts.{short_key_front}
use Rattle.prost_reflect_wire.proofs.PlaceFaults.{value_stands_in_value}
use Rattle.prost_reflect_wire.proofs.RecordFronts.{value_once}

faultless : (e : DecodeError) (n : ℕ) (w : WireType) (levels : ℕ) (p : Payload) (bytes rest : List ℕ) → 1 ≤ n → n < 2 ^ 29 → ValueFront n w levels p bytes rest → ValueFault e n w levels bytes → ⊥
faultless e n w levels p bytes rest some below f h =
    let k = short_key_front n w bytes some below in
    value_no_fault e n w levels p bytes rest k f (value_stands_in_value e levels n w bytes k h)

pub value_only : (n : ℕ) (w : WireType) (levels : ℕ) (bytes : List ℕ) (r : Result (UnknownFieldValue × Bor (List ℕ)) DecodeError) → 1 ≤ n → n < 2 ^ 29
    → IfOk r (λ x. ValueFront n w levels (payload_of x.0) bytes x.1.now) → IfErr r (λ e. e ≢ errors.OutOfMemory → ValueFault e n w levels bytes)
    → (p : Payload) (rest : List ℕ) → ValueFront n w levels p bytes rest → MatchResult r (λ x. (payload_of x.0 ≡ p) × (x.1.now ≡ rest)) (λ e. e ≡ errors.OutOfMemory)
value_only n w levels bytes (Ok x) some below ok fault p rest f = value_once n w levels (payload_of x.0) p bytes x.1.now rest ok f
value_only n w levels bytes (Err e) some below ok fault p rest f = only_memory e (λ ne. faultless e n w levels p bytes rest some below f (fault ne))

pub skip_only : (n : ℕ) (w : WireType) (levels : ℕ) (bytes : List ℕ) (r : Result (Bor (List ℕ)) DecodeError) → 1 ≤ n → n < 2 ^ 29
    → IfOk r (λ x. SkipsValue n w levels bytes x.now) → IfErr r (λ e. ValueFault e n w levels bytes)
    → (p : Payload) (rest : List ℕ) → ValueFront n w levels p bytes rest → IsOkAnd r (λ x. x.now ≡ rest)
skip_only n w levels bytes (Ok x) some below ok fault p rest f = let s = value_once n w levels ok.0 p bytes x.now rest ok.1 f in s.1
skip_only n w levels bytes (Err e) some below ok fault p rest f = faultless e n w levels p bytes rest some below f fault
