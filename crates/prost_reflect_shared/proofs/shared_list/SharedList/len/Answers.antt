use Rattle.std.proofs.Common.{length, ap, arith}
use Rattle.prost_reflect_shared.proofs.Places.{length-items_in}
use Rattle.prost_reflect_shared.proofs.shared_list.SharedList.len.Goals as goal

pub returns : goal.returns
returns g c = omega (arith, length-items_in c.self.inside.chunks.items c.self.inside.rest.items c.self.invariant, ap length c.self.view_is)
