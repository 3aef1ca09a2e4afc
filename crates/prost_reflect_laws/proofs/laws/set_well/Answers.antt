use Rattle.prost_reflect_laws.proofs.Setting.{set_well}
use Rattle.prost_reflect_laws.proofs.laws.set_well.Goals as goal

pub returns : goal.returns
returns c = set_well
