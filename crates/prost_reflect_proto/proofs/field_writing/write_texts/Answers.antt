use Rattle.std.specs.Prelude.{◌≡◌}
use Rattle.prost_reflect_proto.proofs.Common.{arith}
use Rattle.prost_reflect_proto.proofs.FieldBytes.{adds_same, texts_field}
use Rattle.prost_reflect_proto.proofs.field_writing.write_texts.Goals as goal

pub returns : goal.returns
returns g c = let first : c.loop-index.index ≡ 0 = omega arith in
    adds_same g.S.Sink.added _ _ _ _ (texts_field _ _) (rw first at c.loop-index.invariant)
