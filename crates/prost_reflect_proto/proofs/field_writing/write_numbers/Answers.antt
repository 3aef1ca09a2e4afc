use Rattle.std.specs.Prelude.{◌≡◌}
use Rattle.prost_reflect_proto.proofs.Common.{arith}
use Rattle.prost_reflect_proto.proofs.FieldBytes.{adds_same, numbers_field}
use Rattle.prost_reflect_proto.proofs.SoundFields.{numbers_sound}
use Rattle.prost_reflect_proto.proofs.field_writing.write_numbers.Goals as goal

pub returns-clause-added : goal.returns-clause-added
returns-clause-added g c = let first : c.loop-index.index ≡ 0 = omega arith in
    adds_same g.S.Sink.added _ _ _ _ (numbers_field _ _) (rw first at c.loop-index.invariant.added)

pub returns-clause-sound : goal.returns-clause-sound
returns-clause-sound g c = let first : c.loop-index.index ≡ 0 = omega arith in numbers_sound c.args.values.now (rw first at c.loop-index.invariant.range)
