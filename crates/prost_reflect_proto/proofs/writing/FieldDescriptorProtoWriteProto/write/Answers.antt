use Rattle.prost_reflect_proto.proofs.Common.{refl}
use Rattle.prost_reflect_types.specs.declared.table.RecordType.TheVariants as types
use Rattle.prost_reflect_types.proofs.RecordSlots.{field_slots}
use Rattle.prost_reflect_proto.proofs.RecordBytes.{record_adds}
use Rattle.prost_reflect_proto.proofs.SoundFields.{text_sound, flag_sound}
use Rattle.prost_reflect_proto.proofs.SoundRecords.{record_sound}
use Rattle.prost_reflect_proto.proofs.writing.FieldDescriptorProtoWriteProto.write.Goals as goal

pub returns-clause-added : goal.returns-clause-added
returns-clause-added g c = record_adds g.S.Sink.added _ _ types.Field (field_slots c.args.self.now) (refl, (refl, (refl, (refl, (refl, (refl, (refl, (refl, (refl, (refl, (refl, tt))))))))))) (λ start done h. c.write_text-5.ensures _ _ (c.write_text-4.ensures _ _ (c.write_number-4.ensures.added _ _ (c.write_number-3.ensures.added _ _ (c.write_number-2.ensures.added _ _ (c.write_text-3.ensures _ _ (c.write_text-2.ensures _ _ (c.write_bytes.ensures.added _ _ (c.write_number.ensures.added _ _ (c.write_text.ensures _ _ (c.write_flag.ensures _ _ h)))))))))))

pub returns-clause-sound : goal.returns-clause-sound
returns-clause-sound g c = record_sound types.Field (field_slots c.args.self.now) (refl, (refl, (refl, (refl, (refl, (refl, (refl, (refl, (refl, (refl, (refl, tt))))))))))) refl (text_sound _, (text_sound _, (c.write_number-4.ensures.sound, (c.write_number-3.ensures.sound, (c.write_number-2.ensures.sound, (text_sound _, (text_sound _, (c.write_bytes.ensures.sound, (c.write_number.ensures.sound, (text_sound _, (flag_sound _, tt)))))))))))
