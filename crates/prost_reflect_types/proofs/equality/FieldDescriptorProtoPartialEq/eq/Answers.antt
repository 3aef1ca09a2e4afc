use Rattle.prost_reflect_types.proofs.Common.{refl}
use Rattle.prost_reflect_types.specs.declared.table.RecordType.TheVariants as types
use Rattle.prost_reflect_types.proofs.RecordSlots.{field_slots}
use Rattle.prost_reflect_types.proofs.SameRecords.{all_equal, and_also, record_decided, decided_value}
use Rattle.prost_reflect_types.proofs.equality.FieldDescriptorProtoPartialEq.eq.Goals as goal

pub returns-clause-same : goal.returns-clause-same
returns-clause-same c = record_decided types.Field (field_slots c.args.self.now) (field_slots c.args.other.now) refl _ (and_also (and_also (and_also (and_also (and_also (and_also (and_also (and_also (and_also (and_also (and_also all_equal c.text.ensures) c.text-2.ensures) c.number.ensures) c.number-2.ensures) c.number-3.ensures) c.text-3.ensures) c.text-4.ensures) c.bytes.ensures) c.number-4.ensures) c.text-5.ensures) c.flag.ensures)

pub returns-clause-value : goal.returns-clause-value
returns-clause-value c = decided_value _ _ _ (returns-clause-same c)
