use Rattle.prost_reflect_tables.proofs.WorkedChecks.{checked_options, keys_and_values}
use Rattle.prost_reflect_tables.proofs.examples.checking.Goals as goal

pub returns : goal.returns
returns c = record { options = checked_options; entries = keys_and_values }
