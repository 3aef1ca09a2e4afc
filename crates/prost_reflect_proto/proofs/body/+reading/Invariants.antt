use Rattle.std.specs.Prelude.{◌+◌, ◌*◌}
use Rattle.prost_reflect_proto.proofs.Common.{drop, map, of_message}
use Rattle.prost_reflect_types.specs.declared.table.RecordType.TheVariants as types
use Rattle.prost_reflect_proto.proofs.NestedRecords.{NestedSoFar}
use Rattle.prost_reflect_proto.proofs.body.+reading.Given as goal

abbrev pub decreases-nested_message : goal.decreases-nested_message
decreases-nested_message l = 3 * l.levels

abbrev pub decreases-messages : goal.decreases-messages
decreases-messages l = 3 * l.levels + 1

abbrev pub decreases-message : goal.decreases-message
decreases-message l = 3 * l.levels + 2

abbrev pub invariant-messages-loop-body : goal.invariant-messages-loop-body
invariant-messages-loop-body l = NestedSoFar l.levels types.Message (map of_message l.records.items) (map (λ b. b.now) l.bodies) (map (λ b. b.now) (drop l.body-index l.bodies))
