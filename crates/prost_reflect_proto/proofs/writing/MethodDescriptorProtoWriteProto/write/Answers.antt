use Rattle.prost_reflect_proto.proofs.Common.{refl}
use Rattle.prost_reflect_types.specs.declared.table.RecordType.TheVariants as types
use Rattle.prost_reflect_types.proofs.RecordSlots.{method_slots}
use Rattle.prost_reflect_proto.proofs.RecordBytes.{record_adds}
use Rattle.prost_reflect_proto.proofs.SoundFields.{text_sound, flag_sound}
use Rattle.prost_reflect_proto.proofs.SoundRecords.{record_sound}
use Rattle.prost_reflect_proto.proofs.writing.MethodDescriptorProtoWriteProto.write.Goals as goal

pub returns-clause-added : goal.returns-clause-added
returns-clause-added g c = record_adds g.S.Sink.added _ _ types.Method (method_slots c.args.self.now) (refl, (refl, (refl, (refl, (refl, (refl, tt)))))) (λ start done h. c.write_text-3.ensures _ _ (c.write_text-2.ensures _ _ (c.write_text.ensures _ _ (c.write_bytes.ensures.added _ _ (c.write_flag-2.ensures _ _ (c.write_flag.ensures _ _ h))))))

pub returns-clause-sound : goal.returns-clause-sound
returns-clause-sound g c = record_sound types.Method (method_slots c.args.self.now) (refl, (refl, (refl, (refl, (refl, (refl, tt)))))) refl (text_sound _, (text_sound _, (text_sound _, (c.write_bytes.ensures.sound, (flag_sound _, (flag_sound _, tt))))))
