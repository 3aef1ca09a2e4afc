use Rattle.prost_reflect_dynamic.proofs.message.DynamicMessage.encoded_len.Goals as goal

pub returns : goal.returns
returns c = c.total.ensures _ _ c.new-sink.ensures c.write_body.ensures
