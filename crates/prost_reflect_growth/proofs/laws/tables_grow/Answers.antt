use Rattle.prost_reflect_growth.proofs.TablesGrow.{tables_grow}
use Rattle.prost_reflect_growth.proofs.laws.tables_grow.Goals as goal

pub returns : goal.returns
returns c = tables_grow
