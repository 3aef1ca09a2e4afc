use Rattle.std.proofs.Common.{length}
use Rattle.prost_reflect_faults.specs.Searching.{wire_of_kind}
use Rattle.prost_reflect_faults.proofs.Packed.{Parted}
use Rattle.prost_reflect_faults.proofs.payload.check_elements.Given as goal

abbrev pub invariant-loop-rest : goal.invariant-loop-rest
invariant-loop-rest l = Parted (wire_of_kind l.fn.kind) l.body l.rest

abbrev pub decreases-loop-rest : goal.decreases-loop-rest
decreases-loop-rest l = length l.rest
