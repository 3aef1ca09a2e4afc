use Rattle.std.proofs.Common.{◌≡◌, IsUtf8, length}
use Rattle.prototool_commands.proofs.PathSteps.{IsAlong}
use Rattle.prototool_commands.proofs.redact.path.numbers_of.Given as goal

-- the numbers so far lead to a message type of the same pool, and to what is left of the path
abbrev pub invariant-loop-step : goal.invariant-loop-step
invariant-loop-step l =
    IsUtf8 l.left
    × (l.from.pool.inner.value ≡ l.descriptor.pool.inner.value)
    × IsAlong l.descriptor.pool.inner.value l.descriptor.index l.path l.numbers.items l.from.index l.left
    × (length l.numbers.items ≡ l._step)
