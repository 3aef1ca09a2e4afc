use Rattle.prost_reflect_proto.proofs.Common.{drop, map}
use Rattle.prost_reflect_proto.proofs.NestedRecords.{NestedSoFar}
use Rattle.prost_reflect_proto.proofs.body.records.Given as goal

abbrev pub invariant-loop-body : goal.invariant-loop-body
invariant-loop-body g l = NestedSoFar l.levels g.P.WriteProto.record_type (map g.P.HasContent.content l.records.items) (map (λ b. b.now) l.bodies) (map (λ b. b.now) (drop l.body-index l.bodies))
