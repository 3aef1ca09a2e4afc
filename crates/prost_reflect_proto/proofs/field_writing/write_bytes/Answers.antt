use Rattle.prost_reflect_proto.proofs.FieldBytes.{adds_same, adds_none, raw_bytes, no_bytes}
use Rattle.prost_reflect_proto.proofs.SoundFields.{raw_sound, raw_absent}
use Rattle.prost_reflect_proto.proofs.field_writing.write_bytes.Goals as goal

pub returns-in-Some-clause-added : goal.returns-in-Some-clause-added
returns-in-Some-clause-added g c = adds_same g.S.Sink.added _ _ _ _ (raw_bytes _ _ c.in-Some.bytes _ c.in-Some.is c.deref.ensures.value) c.write_delimited.ensures.added

pub returns-in-Some-clause-sound : goal.returns-in-Some-clause-sound
returns-in-Some-clause-sound g c = raw_sound _ c.in-Some.bytes _ c.in-Some.is c.deref.ensures.value c.write_delimited.ensures.bytes

pub returns-in_default-clause-added : goal.returns-in_default-clause-added
returns-in_default-clause-added g c = adds_none g.S.Sink.added _ _ (no_bytes _ _ c.in_default.is)

pub returns-in_default-clause-sound : goal.returns-in_default-clause-sound
returns-in_default-clause-sound g c = raw_absent _ c.in_default.is
