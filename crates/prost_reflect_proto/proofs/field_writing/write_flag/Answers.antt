use Rattle.std.specs.Prelude.{◌≡◌}
use Rattle.prost_reflect_proto.proofs.Common.{rules, cond}
use Rattle.prost_reflect_proto.proofs.FieldBytes.{adds_same, adds_none, flag_bytes, no_flag}
use Rattle.prost_reflect_proto.proofs.field_writing.write_flag.Goals as goal

pub returns-in-Some : goal.returns-in-Some
returns-in-Some g c = let value : c.from.result ≡ cond c.in-Some.flag 1 0 = search rules in
    adds_same g.S.Sink.added _ _ _ _ (flag_bytes _ _ c.in-Some.flag _ c.in-Some.is value) c.write_varint.ensures

pub returns-in_default : goal.returns-in_default
returns-in_default g c = adds_none g.S.Sink.added _ _ (no_flag _ _ c.in_default.is)
