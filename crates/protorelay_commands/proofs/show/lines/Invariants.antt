use Rattle.std.proofs.Common.{◌≡◌, ◌++◌, drop, string_bytes}
use Rattle.protorelay_commands.specs.Showing.{lines}
use Rattle.protorelay_commands.proofs.show.lines.Given as goal

-- the lines of all numbers are the text and the lines of those that are left
abbrev pub invariant-loop-number : goal.invariant-loop-number
invariant-loop-number l = lines l.numbers ≡ string_bytes l.text ++ lines (drop l.number-index l.numbers)
