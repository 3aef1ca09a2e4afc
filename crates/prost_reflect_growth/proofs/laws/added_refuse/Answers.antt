use Rattle.prost_reflect_growth.proofs.TablesGrow.{added_refuse}
use Rattle.prost_reflect_growth.proofs.laws.added_refuse.Goals as goal

pub returns : goal.returns
returns c = added_refuse
