use Rattle.prost_reflect_wire.proofs.Shortest.{short_spells}
use Rattle.prost_reflect_laws.proofs.laws.written_spells.Goals as goal

pub returns : goal.returns
returns c = short_spells
