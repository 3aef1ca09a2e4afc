-- Bytes to which more are added in front.
use Rattle.std.specs.Prelude.{◌≡◌, ℕ, ◌+◌, ◌^◌, ◌≤◌, List, [], ◌∷◌, ◌++◌, length, drop, Result, Ok, Err}
use Rattle.prost_reflect_wire.specs.declared.buffer.BackBuffer.{BackBuffer}
use Rattle.prost_reflect_wire.specs.declared.error.EncodeError.{EncodeError}
use Rattle.prost_reflect_wire.specs.declared.error.EncodeError.TheVariants.{TooLong}

-- What was added.
abbrev pub bytes_of : BackBuffer → List ℕ
bytes_of buffer = drop buffer.start buffer.bytes.items

-- What buffers hold, each in front of those that were filled before it.
abbrev pub joined : List BackBuffer → List ℕ
joined [] = []
joined (first ∷ later) = joined later ++ bytes_of first

-- The front now stands before what was there; a length is too great only past the greatest of 64 bits.
abbrev pub Prepended : Result (Unit {0}) EncodeError → List ℕ → List ℕ → List ℕ → Type 0
Prepended (Ok _) old new front = new ≡ front ++ old
Prepended (Err e) old new front = e ≡ TooLong → 2 ^ 64 ≤ length front + length old
