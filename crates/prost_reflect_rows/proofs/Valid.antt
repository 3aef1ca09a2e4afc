-- Which scalars are in range.
use Rattle.std.specs.Prelude.{◌≡◌, ◌∷◌}
use Rattle.prost_reflect_rows.proofs.Common.{ℕ, suc, true, List, [], refl, arith, lt-ltb, and_from, are_bytes}
use lib.ListN.{get_or}
use mir.Val.{Fits}
use mir.Syntax.{w8}

-- what fits bytes
pub bytes_fit : (bs : List ℕ) → ((i : ℕ) → Fits w8 (get_or bs i 0)) → are_bytes bs ≡ true
bytes_fit [] h = refl
bytes_fit (b ∷ bs) h = and_from _ _ (lt-ltb b 256 (omega (arith, h 0))) (bytes_fit bs (λ i. h (suc i)))
