use Rattle.std.proofs.Common.{◌≡◌, ◌==◌, length, drop}
use Rattle.std.specs.List.{slice_split}
use Rattle.protorelay_commands.specs.Editing.{path_spelled}
use Rattle.protorelay_commands.proofs.Paths.{behind}
use Rattle.protorelay_commands.proofs.path.numbers_of.Given as goal

-- the path is the numbers so far, and those of the pieces that are left
abbrev pub invariant-loop-digits : goal.invariant-loop-digits
invariant-loop-digits l = path_spelled l.text ≡ behind l.numbers.items (drop (length l.yielded) (slice_split (λ b. b == 46) l.text))
