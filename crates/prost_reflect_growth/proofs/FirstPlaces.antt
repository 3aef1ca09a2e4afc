-- Places among so many first ones.
use Rattle.std.specs.Prelude.{◌≡◌, ◌<◌}
use Rattle.std.proofs.lemmas.Bool.{ltb-false}
use Rattle.prost_reflect_growth.proofs.Common.{ℕ, false, Option, None, Some, refl, arith, is_place, ne_eqb}
use Rattle.prost_reflect_growth.specs.FirstPlaces.{is_below}

-- What is none of the first places is not a certain one of them.
pub elsewhere : (n T : ℕ) (p : Option ℕ) → is_below n p ≡ false → T < n → is_place T p ≡ false
elsewhere n T None e h = refl
elsewhere n T (Some j) e h = let past = ltb-false j n e in ne_eqb T j (λ same. absurd (omega (arith, past, same, h)))
