use Rattle.prost_reflect_growth.proofs.RowsGrow.{rows_grow}
use Rattle.prost_reflect_growth.proofs.laws.rows_grow.Goals as goal

pub returns : goal.returns
returns c = rows_grow
