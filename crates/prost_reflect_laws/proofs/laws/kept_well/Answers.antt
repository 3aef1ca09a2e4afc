use Rattle.prost_reflect_laws.proofs.Kept.{kept_well}
use Rattle.prost_reflect_laws.proofs.laws.kept_well.Goals as goal

pub returns : goal.returns
returns c = kept_well
