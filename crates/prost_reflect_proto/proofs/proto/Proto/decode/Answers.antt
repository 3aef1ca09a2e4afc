use Rattle.prost_reflect_proto.proofs.Common.{LEVEL_LIMIT}
use Rattle.prost_reflect_wire.proofs.ByteLists.{bytes_below}
use Rattle.prost_reflect_proto.proofs.NestedRecords.{ok_accepts, err_memory}
use Rattle.prost_reflect_proto.proofs.proto.Proto.decode.Goals as goal

pub returns-clause-accepts : goal.returns-clause-accepts
returns-clause-accepts g c = ok_accepts LEVEL_LIMIT g.Self.WriteProto.record_type c.args.bytes.now g.Self.HasContent.content c.from_body.result (bytes_below _ c.type_inv.bytes) c.from_body.ensures.ok

pub returns-clause-accepted : goal.returns-clause-accepted
returns-clause-accepted g c = err_memory LEVEL_LIMIT g.Self.WriteProto.record_type c.args.bytes.now c.from_body.result (bytes_below _ c.type_inv.bytes) c.from_body.ensures.fault
