use Rattle.prost_reflect_laws.proofs.Packed.{packed_back}
use Rattle.prost_reflect_laws.proofs.laws.packed_back.Goals as goal

pub returns : goal.returns
returns c = packed_back
