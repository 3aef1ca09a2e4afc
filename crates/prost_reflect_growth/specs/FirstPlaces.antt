-- Places among so many first ones.
use Rattle.std.specs.Prelude.{ℕ, Bool, false, nat_lt, Option, None, Some}

-- The place is one of so many first ones.
abbrev pub is_below : ℕ → Option ℕ → Bool
is_below n None = false
is_below n (Some place) = nat_lt place n
