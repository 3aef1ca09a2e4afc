use Rattle.prost_reflect_types.proofs.Common.{refl}
use Rattle.prost_reflect_types.specs.declared.table.RecordType.TheVariants as types
use Rattle.prost_reflect_types.proofs.RecordSlots.{file_slots}
use Rattle.prost_reflect_types.proofs.SameRecords.{all_equal, and_also, record_decided, decided_value}
use Rattle.prost_reflect_types.proofs.equality.FileDescriptorProtoPartialEq.eq.Goals as goal

pub returns-clause-same : goal.returns-clause-same
returns-clause-same c = record_decided types.File (file_slots c.args.self.now) (file_slots c.args.other.now) refl _ (and_also (and_also (and_also (and_also (and_also (and_also (and_also (and_also (and_also (and_also (and_also (and_also all_equal c.text.ensures) c.text-2.ensures) c.texts.ensures) c.records.ensures) c.records-2.ensures) c.records-3.ensures) c.records-4.ensures) c.bytes.ensures) c.bytes-2.ensures) c.numbers.ensures) c.numbers-2.ensures) c.text-3.ensures)

pub returns-clause-value : goal.returns-clause-value
returns-clause-value c = decided_value _ _ _ (returns-clause-same c)
