use Rattle.prost_reflect_proto.proofs.Common.{length, Fields, all_found}
use Rattle.prost_reflect_proto.proofs.fields.fields_in.Given as goal

abbrev pub decreases-loop-rows : goal.decreases-loop-rows
decreases-loop-rows l = length l.rest

abbrev pub invariant-loop-rows : goal.invariant-loop-rows
invariant-loop-rows l = Fields l.levels l.fn.record_type (all_found l.fields.items) l.body l.rest
