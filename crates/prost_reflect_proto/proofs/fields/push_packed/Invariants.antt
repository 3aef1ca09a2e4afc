use Rattle.prost_reflect_proto.proofs.Common.{length, all_found}
use Rattle.prost_reflect_proto.proofs.FieldsFound.{PackedSoFar}
use Rattle.prost_reflect_proto.proofs.fields.push_packed.Given as goal

abbrev pub decreases-loop-rest : goal.decreases-loop-rest
decreases-loop-rest l = length l.rest

abbrev pub invariant-loop-rest : goal.invariant-loop-rest
invariant-loop-rest l = PackedSoFar l.number (all_found l.fn.fields.items) (all_found l.fields.items) l.body l.rest
