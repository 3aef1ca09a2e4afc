use Rattle.prost_reflect_tables.proofs.Worked.{not_linked}
use Rattle.prost_reflect_tables.proofs.examples.tables_not_linked.Goals as goal

pub returns : goal.returns
returns c = not_linked
