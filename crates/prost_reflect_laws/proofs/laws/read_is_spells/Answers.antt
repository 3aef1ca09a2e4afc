use Rattle.prost_reflect_laws.proofs.Common.{spelled_read, read_spells}
use Rattle.prost_reflect_laws.proofs.laws.read_is_spells.Goals as goal

pub returns : goal.returns
returns c bytes rs small = (read_spells bytes rs small, spelled_read rs bytes)
