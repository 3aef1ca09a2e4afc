use Rattle.prost_reflect_tables.proofs.Worked.{tables}
use Rattle.prost_reflect_tables.proofs.examples.shown_tables.Goals as goal

pub returns : goal.returns
returns c = tables
