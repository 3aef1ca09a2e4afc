use Rattle.prost_reflect_proto.proofs.Common.{refl}
use Rattle.prost_reflect_types.specs.declared.table.RecordType.TheVariants as types
use Rattle.prost_reflect_types.proofs.RecordSlots.{enum_slots}
use Rattle.prost_reflect_proto.proofs.RecordBytes.{record_adds}
use Rattle.prost_reflect_proto.proofs.SoundFields.{text_sound, texts_sound}
use Rattle.prost_reflect_proto.proofs.SoundRecords.{record_sound}
use Rattle.prost_reflect_proto.proofs.writing.EnumDescriptorProtoWriteProto.write.Goals as goal

pub returns-clause-added : goal.returns-clause-added
returns-clause-added g c = record_adds g.S.Sink.added _ _ types.Enum (enum_slots c.args.self.now) (refl, (refl, (refl, (refl, (refl, tt))))) (λ start done h. c.write_text.ensures _ _ (c.write_records-2.ensures.added _ _ (c.write_bytes.ensures.added _ _ (c.write_records.ensures.added _ _ (c.write_texts.ensures _ _ h)))))

pub returns-clause-sound : goal.returns-clause-sound
returns-clause-sound g c = record_sound types.Enum (enum_slots c.args.self.now) (refl, (refl, (refl, (refl, (refl, tt))))) refl (text_sound _, (c.write_records-2.ensures.sound, (c.write_bytes.ensures.sound, (c.write_records.ensures.sound, (texts_sound _, tt)))))
