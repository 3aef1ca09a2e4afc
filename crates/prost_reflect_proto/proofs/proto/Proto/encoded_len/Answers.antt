use Rattle.prost_reflect_proto.proofs.proto.Proto.encoded_len.Goals as goal

pub returns : goal.returns
returns g c = c.total.ensures _ _ c.new-sink.ensures c.write.ensures.added
