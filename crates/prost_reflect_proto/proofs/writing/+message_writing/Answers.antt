use Rattle.std.specs.Prelude.{◌≡◌}
use Rattle.prost_reflect_proto.proofs.Common.{refl, sym, ap, subst, arith, encoded, RecordSound, of_message}
use Rattle.prost_reflect_types.specs.declared.table.RecordType.TheVariants as types
use Rattle.prost_reflect_proto.proofs.FieldBytes.{adds_same, records_field}
use Rattle.prost_reflect_types.proofs.RecordSlots.{message_slots, message_out}
use Rattle.prost_reflect_proto.proofs.RecordBytes.{record_adds}
use Rattle.prost_reflect_proto.proofs.SoundFields.{text_sound, texts_sound, records_sound}
use Rattle.prost_reflect_proto.proofs.SoundRecords.{record_sound}
use Rattle.prost_reflect_proto.proofs.writing.+message_writing.Goals as goal

pub write_message-returns-clause-added : goal.write_message-returns-clause-added
write_message-returns-clause-added g t c = adds_same g.S.Sink.added _ _ _ _ (ap encoded (sym (message_out c.args.message.now)))
    (record_adds g.S.Sink.added _ _ types.Message (message_slots c.args.message.now) (refl, (refl, (refl, (refl, (refl, (refl, (refl, (refl, (refl, (refl, tt)))))))))) (λ start done h. c.write_text.ensures _ _ (c.write_records-6.ensures.added _ _ (c.write_messages.ensures.added _ _ (c.write_records-5.ensures.added _ _ (c.write_records-4.ensures.added _ _ (c.write_records-3.ensures.added _ _ (c.write_bytes.ensures.added _ _ (c.write_records-2.ensures.added _ _ (c.write_records.ensures.added _ _ (c.write_texts.ensures _ _ h)))))))))))

pub write_message-returns-clause-sound : goal.write_message-returns-clause-sound
write_message-returns-clause-sound g t c = subst (RecordSound types.Message) (sym (message_out c.args.message.now))
    (record_sound types.Message (message_slots c.args.message.now) (refl, (refl, (refl, (refl, (refl, (refl, (refl, (refl, (refl, (refl, tt)))))))))) refl (text_sound _, (c.write_records-6.ensures.sound, (c.write_messages.ensures.sound, (c.write_records-5.ensures.sound, (c.write_records-4.ensures.sound, (c.write_records-3.ensures.sound, (c.write_bytes.ensures.sound, (c.write_records-2.ensures.sound, (c.write_records.ensures.sound, (texts_sound _, tt)))))))))))

pub write_messages-returns-clause-added : goal.write_messages-returns-clause-added
write_messages-returns-clause-added g t c = let first : c.loop-index.index ≡ 0 = omega arith in
    adds_same g.S.Sink.added _ _ _ _ (records_field c.args.number types.Message of_message c.args.messages.now.items) (rw first at c.loop-index.invariant.added)

pub write_messages-returns-clause-sound : goal.write_messages-returns-clause-sound
write_messages-returns-clause-sound g t c = let first : c.loop-index.index ≡ 0 = omega arith in records_sound types.Message _ (rw first at c.loop-index.invariant.sound)
