use Rattle.prost_reflect_laws.proofs.Arranged.{meaning_ordered}
use Rattle.prost_reflect_laws.proofs.laws.meaning_ordered.Goals as goal

pub returns : goal.returns
returns c = meaning_ordered
