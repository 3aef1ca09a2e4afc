-- What walks over definitions find. For private contracts alone.
use Rattle.std.specs.Prelude.{◌≡◌}
use Rattle.std.specs.Fn.{FnReturnsAt}
use denote.Ref.{Bor}
use denote.Param.Members.{Shared}

-- The code computes this function.
abbrev pub Computes : {F T R : Type 0} → Shared F (Bor T × Unit {0}) R → F → (T → R) → Type 0
Computes {F} {T} {R} g code f = (x : T) (r : R) → FnReturnsAt g code x r → r ≡ f x
