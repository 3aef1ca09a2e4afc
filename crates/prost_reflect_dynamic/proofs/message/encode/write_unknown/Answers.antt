use Rattle.prost_reflect_dynamic.proofs.Common.{sym, adds_same}
use Rattle.prost_reflect_proto.proofs.FieldBytes.{adds_none}
use Rattle.prost_reflect_dynamic.proofs.Encodings.{unknown_written, unknown_nothing}
use Rattle.prost_reflect_dynamic.proofs.message.encode.write_unknown.Goals as goal

pub returns-in-Some : goal.returns-in-Some
returns-in-Some g c = adds_same g.S.Sink.added _ _ _ _ (sym (unknown_written c.args.number c.args.entry.now c.in-Some.unknown.now (sym c.in-Some.ensures) c.requires)) c.write_fields.ensures.added

pub returns-in_default : goal.returns-in_default
returns-in_default g c = adds_none g.S.Sink.added _ _ (unknown_nothing c.args.number c.args.entry.now (sym c.in_default.ensures))
