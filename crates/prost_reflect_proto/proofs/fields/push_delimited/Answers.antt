use Rattle.prost_reflect_proto.proofs.FieldsFound.{packed_refused}
use Rattle.prost_reflect_proto.proofs.fields.push_delimited.Goals as goal

pub returns-in-Numbers-clause-fault : goal.returns-in-Numbers-clause-fault
returns-in-Numbers-clause-fault c = packed_refused _ c.push_packed.result _ c.in-Numbers.is c.push_packed.ensures.fault
