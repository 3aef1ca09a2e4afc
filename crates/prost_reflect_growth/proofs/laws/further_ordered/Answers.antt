use Rattle.prost_reflect_growth.proofs.RowsGrow.{further_ordered}
use Rattle.prost_reflect_growth.proofs.laws.further_ordered.Goals as goal

pub returns : goal.returns
returns c = further_ordered
