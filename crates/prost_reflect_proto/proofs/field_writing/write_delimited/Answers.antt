use Rattle.prost_reflect_wire.proofs.ByteLists.{bytes_by_index}
use Rattle.prost_reflect_proto.proofs.field_writing.write_delimited.Goals as goal

pub returns-clause-bytes : goal.returns-clause-bytes
returns-clause-bytes g c = bytes_by_index _ c.type_inv.payload
