use Rattle.prost_reflect_proto.proofs.FieldBytes.{adds_same, adds_none, text_bytes, no_text}
use Rattle.prost_reflect_proto.proofs.field_writing.write_text.Goals as goal

pub returns-in-Some : goal.returns-in-Some
returns-in-Some g c = adds_same g.S.Sink.added _ _ _ _ (text_bytes _ _ c.in-Some.text _ c.in-Some.is c.as_bytes.ensures.value) c.write_delimited.ensures.added

pub returns-in_default : goal.returns-in_default
returns-in_default g c = adds_none g.S.Sink.added _ _ (no_text _ _ c.in_default.is)
