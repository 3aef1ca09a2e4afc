use Rattle.prost_reflect_dynamic.proofs.Common.{on_ok_weaker}
use Rattle.prost_reflect_dynamic.proofs.Stored.{message_set}
use Rattle.prost_reflect_dynamic.proofs.TypedSteps.{set_typed}
use Rattle.prost_reflect_dynamic.proofs.message.DynamicMessage.set_member.Goals as goal

pub returns-clause-content : goal.returns-clause-content
returns-clause-content c = on_ok_weaker c.set_member.result (message_set c.args.self.now c.set_member.new.self c.args.number c.args.value c.set_member.ensures.ascending c.requires.known) c.set_member.ensures.ok

pub returns-clause-typed : goal.returns-clause-typed
returns-clause-typed c = on_ok_weaker c.set_member.result (set_typed c.args.self.now c.set_member.new.self c.args.number c.args.value c.set_member.ensures.ascending) c.set_member.ensures.ok
