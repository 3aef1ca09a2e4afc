use Rattle.prost_reflect_proto.proofs.Common.{refl}
use Rattle.prost_reflect_types.specs.declared.table.RecordType.TheVariants as types
use Rattle.prost_reflect_types.proofs.RecordSlots.{extension_range_slots}
use Rattle.prost_reflect_proto.proofs.RecordBytes.{record_adds}
use Rattle.prost_reflect_proto.proofs.SoundRecords.{record_sound}
use Rattle.prost_reflect_proto.proofs.writing.ExtensionRangeWriteProto.write.Goals as goal

pub returns-clause-added : goal.returns-clause-added
returns-clause-added g c = record_adds g.S.Sink.added _ _ types.ExtensionRange (extension_range_slots c.args.self.now) (refl, (refl, (refl, tt))) (λ start done h. c.write_number-2.ensures.added _ _ (c.write_number.ensures.added _ _ (c.write_bytes.ensures.added _ _ h)))

pub returns-clause-sound : goal.returns-clause-sound
returns-clause-sound g c = record_sound types.ExtensionRange (extension_range_slots c.args.self.now) (refl, (refl, (refl, tt))) refl (c.write_number-2.ensures.sound, (c.write_number.ensures.sound, (c.write_bytes.ensures.sound, tt)))
