use Rattle.prost_reflect_dynamic.proofs.Common.{length}
use Rattle.prost_reflect_dynamic.proofs.ListElements.{PackedSoFar}
use Rattle.prost_reflect_dynamic.proofs.message.decode.list.push_all.Given as goal

abbrev pub decreases-loop-rest : goal.decreases-loop-rest
decreases-loop-rest l = length l.rest

abbrev pub invariant-loop-rest : goal.invariant-loop-rest
invariant-loop-rest l = PackedSoFar l.kind l.fn.values.items l.values.items l.body l.rest
