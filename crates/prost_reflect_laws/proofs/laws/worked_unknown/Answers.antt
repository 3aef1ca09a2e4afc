use Rattle.prost_reflect_laws.proofs.Examples.ComputedDeeper.{unknown_records}
use Rattle.prost_reflect_laws.proofs.laws.worked_unknown.Goals as goal

pub returns : goal.returns
returns c = unknown_records
