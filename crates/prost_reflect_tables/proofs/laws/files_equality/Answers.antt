use Rattle.prost_reflect_tables.proofs.EqualFiles.{contents_decided}
use Rattle.prost_reflect_tables.proofs.laws.files_equality.Goals as goal

pub returns : goal.returns
returns c = contents_decided
