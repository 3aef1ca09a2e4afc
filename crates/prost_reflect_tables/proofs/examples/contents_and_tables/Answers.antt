use Rattle.prost_reflect_tables.proofs.WorkedFiles.{contents_and_tables}
use Rattle.prost_reflect_tables.proofs.examples.contents_and_tables.Goals as goal

pub returns : goal.returns
returns c = contents_and_tables
