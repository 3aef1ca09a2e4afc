use Rattle.prost_reflect_wire.proofs.EqualRecords.{sets_decided}
use Rattle.prost_reflect_wire.proofs.unknown.equality.UnknownFieldSetPartialEq.eq.Goals as goal

pub returns-clause-same : goal.returns-clause-same
returns-clause-same c = sets_decided _ _ c.equal_sets.result c.equal_sets.ensures
