use Rattle.prost_reflect_dynamic.proofs.message.DynamicMessage.encode_to_vec.Goals as goal

pub returns-clause-reads_back : goal.returns-clause-reads_back
returns-clause-reads_back c = λ stored. rw (c.in_ok-encode.ensures.ok, c.new-out.ensures.items) (c.in_ok-encode.ensures.reads_back stored)
