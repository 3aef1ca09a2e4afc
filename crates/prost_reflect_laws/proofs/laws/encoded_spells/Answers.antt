use Rattle.prost_reflect_laws.proofs.Means.{encoded_spells}
use Rattle.prost_reflect_laws.proofs.laws.encoded_spells.Goals as goal

pub returns : goal.returns
returns c = encoded_spells
