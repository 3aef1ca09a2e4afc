use Rattle.prost_reflect_wire.specs.Equality.{record_eq, record_same, record_refl}
use Rattle.prost_reflect_wire.proofs.EqualRecords.{decided}
use Rattle.prost_reflect_wire.proofs.unknown.equality.UnknownFieldPartialEq.eq.Goals as goal

pub returns-clause-same : goal.returns-clause-same
returns-clause-same c = decided record_eq record_same record_refl _ _ c.equal_fields.result c.equal_fields.ensures
