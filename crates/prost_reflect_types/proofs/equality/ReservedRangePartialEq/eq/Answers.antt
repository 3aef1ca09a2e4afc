use Rattle.prost_reflect_types.proofs.Common.{refl}
use Rattle.prost_reflect_types.specs.declared.table.RecordType.TheVariants as types
use Rattle.prost_reflect_types.proofs.RecordSlots.{reserved_range_slots}
use Rattle.prost_reflect_types.proofs.SameRecords.{all_equal, and_also, record_decided, decided_value}
use Rattle.prost_reflect_types.proofs.equality.ReservedRangePartialEq.eq.Goals as goal

pub returns-clause-same : goal.returns-clause-same
returns-clause-same c = record_decided types.ReservedRange (reserved_range_slots c.args.self.now) (reserved_range_slots c.args.other.now) refl _ (and_also (and_also all_equal c.number.ensures) c.number-2.ensures)

pub returns-clause-value : goal.returns-clause-value
returns-clause-value c = decided_value _ _ _ (returns-clause-same c)
