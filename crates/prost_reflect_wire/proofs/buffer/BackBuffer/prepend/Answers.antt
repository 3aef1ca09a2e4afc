use Rattle.prost_reflect_wire.proofs.ByteLists.{bytes_by_index}
use Rattle.prost_reflect_wire.proofs.buffer.BackBuffer.prepend.Goals as goal

pub returns-clause-bytes : goal.returns-clause-bytes
returns-clause-bytes c = bytes_by_index _ c.type_inv.front

pub returns-in_err-reserve-clause-bytes : goal.returns-in_err-reserve-clause-bytes
returns-in_err-reserve-clause-bytes c = bytes_by_index _ c.type_inv.front
