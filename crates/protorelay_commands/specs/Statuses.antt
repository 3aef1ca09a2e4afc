-- The status that the program ends with. For private contracts alone.
use Rattle.std.specs.Prelude.{ℕ}
use Rattle.std.specs.declared.result.Result.{Result}
use Rattle.std.specs.declared.result.Result.TheVariants.{Ok, Err}
use Rattle.protorelay_commands.specs.declared.run.Outcome.{Outcome}
use Rattle.protorelay_commands.specs.declared.run.Outcome.TheVariants.{Done, Refused, Misused}

-- 0 where the command was carried out, 2 where the words ask for none, and else 1, also where a write failed.
abbrev pub status_of : {E : Type 0} → Result Outcome E → ℕ
status_of (Ok Done) = 0
status_of (Ok Refused) = 1
status_of (Ok Misused) = 2
status_of (Err e) = 1
