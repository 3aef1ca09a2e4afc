-- What is written to, from its last byte on: bytes, or a count of them.
use Rattle.std.specs.Prelude.{◌≡◌, ℕ, ◌+◌, ◌^◌, ◌<◌, List, [], ◌++◌, length, Option, Some, None, Result, Ok, Err}
use Rattle.std.specs.Option.{SomeIff}
use Rattle.prost_reflect_wire.specs.Buffer.{Prepended}
use Rattle.prost_reflect_wire.specs.Blocks.{bytes_in}
use Rattle.prost_reflect_wire.specs.declared.error.EncodeError.{EncodeError}
use Rattle.prost_reflect_wire.specs.declared.sink.ByteSink.{ByteSink}
use Rattle.prost_reflect_wire.specs.declared.sink.LengthSink.{LengthSink}

-- A step adds the front to whatever was added before it.
abbrev pub Adds : {A : Type 0} → (A → A → List ℕ → Type 0) → A → A → List ℕ → Type 0
Adds {A} added old new front = (start : A) (done : List ℕ) → added start old done → added start new (front ++ done)

-- What was added since the start, unless a step was refused.
abbrev pub outcome_since : Result (Unit {0}) EncodeError → ByteSink → ByteSink → List ℕ → Type 0
outcome_since (Ok _) start now front = Prepended now.outcome (bytes_in start.blocks) (bytes_in now.blocks) front
outcome_since (Err e) start now front = now.outcome ≡ Err e

abbrev pub written_since : ByteSink → ByteSink → List ℕ → Type 0
written_since start now front = outcome_since start.outcome start now front

-- The bytes that were added are counted, while a usize counts them.
abbrev pub count_since : Option ℕ → Option ℕ → List ℕ → Type 0
count_since None now front = now ≡ None
count_since (Some n) now front = SomeIff now (n + length front < 2 ^ 64) (n + length front)

abbrev pub counted_since : LengthSink → LengthSink → List ℕ → Type 0
counted_since start now front = count_since start.count now.count front

-- Nothing was added yet, nor refused.
pub record HasNoBytes (sink : ByteSink) : Type 0 where
  pub bytes : bytes_in sink.blocks ≡ []
  pub outcome : sink.outcome ≡ Ok tt

abbrev pub HasNoCount : LengthSink → Type 0
HasNoCount sink = sink.count ≡ Some 0
