use Rattle.std.specs.Prelude.{◌≡◌}
use Rattle.prost_reflect_proto.proofs.Common.{arith}
use Rattle.prost_reflect_proto.proofs.FieldBytes.{adds_same, records_field}
use Rattle.prost_reflect_proto.proofs.SoundFields.{records_sound}
use Rattle.prost_reflect_proto.proofs.field_writing.write_records.Goals as goal

pub returns-clause-added : goal.returns-clause-added
returns-clause-added g c = let first : c.loop-index.index ≡ 0 = omega arith in
    adds_same g.S.Sink.added _ _ _ _ (records_field c.args.number g.P.WriteProto.record_type g.P.HasContent.content c.args.records.now.items) (rw first at c.loop-index.invariant.added)

pub returns-clause-sound : goal.returns-clause-sound
returns-clause-sound g c = let first : c.loop-index.index ≡ 0 = omega arith in records_sound g.P.WriteProto.record_type _ (rw first at c.loop-index.invariant.sound)
