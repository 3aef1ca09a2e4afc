-- Why a field that is looked up is not lent for writing.
use Rattle.std.specs.Prelude.{◌≡◌, ℕ, Option, None, Some}
use Rattle.prost_reflect_dynamic.specs.declared.message.lending.GetFieldError.{GetFieldError}
use Rattle.prost_reflect_dynamic.specs.declared.message.lending.GetFieldError.TheVariants.{NotFound, OutOfMemory}

-- None is found; or one is, and memory is out.
abbrev pub RefusesLoan : Option ℕ → GetFieldError → Type 0
RefusesLoan None e = e ≡ NotFound
RefusesLoan (Some n) e = e ≡ OutOfMemory
