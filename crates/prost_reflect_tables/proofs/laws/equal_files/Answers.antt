use Rattle.prost_reflect_tables.proofs.EqualFiles.{equal_tables, equal_checks, equal_refusals}
use Rattle.prost_reflect_tables.proofs.laws.equal_files.Goals as goal

pub returns : goal.returns
returns c = record { tables = equal_tables; checks = equal_checks; refusals = equal_refusals }
