use Rattle.std.specs.Prelude.{◌≡◌}
use Rattle.prost_reflect_proto.proofs.Common.{rules, true, w64, cast_unsigned, in_i32}
use Rattle.prost_reflect_proto.proofs.FieldBytes.{adds_same, adds_none, number_bytes, no_number}
use Rattle.prost_reflect_proto.proofs.SoundFields.{number_sound, number_absent}
use Rattle.prost_reflect_proto.proofs.field_writing.write_number.Goals as goal

pub returns-in-Some-clause-added : goal.returns-in-Some-clause-added
returns-in-Some-clause-added g c = let value : c.sign_extended.result ≡ cast_unsigned w64 c.in-Some.value = search rules in
    adds_same g.S.Sink.added _ _ _ _ (number_bytes _ _ c.in-Some.value _ c.in-Some.is value) c.write_varint.ensures

pub returns-in-Some-clause-sound : goal.returns-in-Some-clause-sound
returns-in-Some-clause-sound g c = let range : in_i32 c.in-Some.value ≡ true = search rules in
    number_sound _ c.in-Some.value c.in-Some.is range

pub returns-in_default-clause-added : goal.returns-in_default-clause-added
returns-in_default-clause-added g c = adds_none g.S.Sink.added _ _ (no_number _ _ c.in_default.is)

pub returns-in_default-clause-sound : goal.returns-in_default-clause-sound
returns-in_default-clause-sound g c = number_absent _ c.in_default.is
