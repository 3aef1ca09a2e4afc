use Rattle.prost_reflect_wire.proofs.ByteLists.{bytes_by_index}
use Rattle.prost_reflect_wire.proofs.sink.LengthSinkSink.prepend.Goals as goal

pub returns-in-Some-clause-bytes : goal.returns-in-Some-clause-bytes
returns-in-Some-clause-bytes c = bytes_by_index _ c.type_inv.front

pub returns-in_default-clause-bytes : goal.returns-in_default-clause-bytes
returns-in_default-clause-bytes c = bytes_by_index _ c.type_inv.front
