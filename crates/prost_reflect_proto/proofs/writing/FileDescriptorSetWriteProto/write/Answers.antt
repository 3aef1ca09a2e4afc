use Rattle.prost_reflect_proto.proofs.Common.{refl}
use Rattle.prost_reflect_types.specs.declared.table.RecordType.TheVariants as types
use Rattle.prost_reflect_types.proofs.RecordSlots.{file_set_slots}
use Rattle.prost_reflect_proto.proofs.RecordBytes.{record_adds}
use Rattle.prost_reflect_proto.proofs.SoundRecords.{record_sound}
use Rattle.prost_reflect_proto.proofs.writing.FileDescriptorSetWriteProto.write.Goals as goal

pub returns-clause-added : goal.returns-clause-added
returns-clause-added g c = record_adds g.S.Sink.added _ _ types.FileSet (file_set_slots c.args.self.now) (refl, tt) (λ start done h. c.write_records.ensures.added _ _ h)

pub returns-clause-sound : goal.returns-clause-sound
returns-clause-sound g c = record_sound types.FileSet (file_set_slots c.args.self.now) (refl, tt) refl (c.write_records.ensures.sound, tt)
