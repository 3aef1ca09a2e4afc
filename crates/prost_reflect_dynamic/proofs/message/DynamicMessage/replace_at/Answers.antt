use Rattle.prost_reflect_dynamic.proofs.Common.{on_ok_weaker}
use Rattle.prost_reflect_dynamic.proofs.MessageParts.{message_joined}
use Rattle.prost_reflect_dynamic.proofs.TypedSteps.{replaced_typed}
use Rattle.prost_reflect_dynamic.proofs.message.DynamicMessage.replace_at.Goals as goal

pub returns-clause-content : goal.returns-clause-content
returns-clause-content c = on_ok_weaker c.replace.result (message_joined _ c.args.self.now c.args.others c.replace.new.self c.replace.ensures.message_type) c.replace.ensures.ok

pub returns-clause-typed : goal.returns-clause-typed
returns-clause-typed c = on_ok_weaker c.replace.result (replaced_typed c.args.numbers.now c.args.self.now c.args.others c.replace.new.self c.requires.message_type c.replace.ensures.message_type) c.replace.ensures.ok
