use Rattle.std.proofs.Common.{◌+◌, ◌*◌, length}
use Rattle.prost_reflect_wire.proofs.SkippedValues.{Skipped}
use Rattle.prost_reflect_wire.proofs.unknown.skipping.+skipping.Given as goal

abbrev pub decreases-skip_group : goal.decreases-skip_group
decreases-skip_group l = 2 * l.levels

abbrev pub decreases-skip_payload : goal.decreases-skip_payload
decreases-skip_payload l = 2 * l.levels + 1

-- the records so far are a front of the bytes
abbrev pub invariant-skip_group-loop-key : goal.invariant-skip_group-loop-key
invariant-skip_group-loop-key l = Skipped l.levels l.bytes l.rest

abbrev pub decreases-skip_group-loop-key : goal.decreases-skip_group-loop-key
decreases-skip_group-loop-key l = length l.rest
