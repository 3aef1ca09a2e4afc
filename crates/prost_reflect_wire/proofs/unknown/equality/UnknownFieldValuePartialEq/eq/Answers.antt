use Rattle.prost_reflect_wire.specs.Equality.{payload_eq, payload_same, payload_refl}
use Rattle.prost_reflect_wire.proofs.EqualRecords.{decided}
use Rattle.prost_reflect_wire.proofs.unknown.equality.UnknownFieldValuePartialEq.eq.Goals as goal

pub returns-clause-same : goal.returns-clause-same
returns-clause-same c = decided payload_eq payload_same payload_refl _ _ c.equal_values.result c.equal_values.ensures
