-- What contracts say of an identity. To the prover it is two numbers, which it alone has, and the value that it stands beside.
use Rattle.std.specs.Prelude.{ℕ}

abbrev pub value_of : {X : Type 0} → (ℕ × ℕ) × X → X
value_of identity = identity.1
