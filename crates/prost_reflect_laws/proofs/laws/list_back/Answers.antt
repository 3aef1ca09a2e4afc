use Rattle.prost_reflect_laws.proofs.Lists.{list_back}
use Rattle.prost_reflect_laws.proofs.laws.list_back.Goals as goal

pub returns : goal.returns
returns c = list_back
