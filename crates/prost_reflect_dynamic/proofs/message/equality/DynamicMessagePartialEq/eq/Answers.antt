use Rattle.prost_reflect_dynamic.proofs.Common.{sym, ◌∙◌, Decides-at, message_stored, same_message, message_decides}
use Rattle.prost_reflect_dynamic.proofs.StoredContents.{contents_shown}
use Rattle.prost_reflect_dynamic.proofs.message.equality.DynamicMessagePartialEq.eq.Goals as goal

pub returns-clause-same : goal.returns-clause-same
returns-clause-same c = Decides-at c.are_equal_messages.result (same_message (message_stored c.args.self.now) (message_stored c.args.other.now)) c.are_equal_messages.ensures (message_decides (message_stored c.args.self.now) (message_stored c.args.other.now))

pub returns-clause-content : goal.returns-clause-content
returns-clause-content c = λ h. contents_shown c.args.self.now c.args.other.now ((message_decides (message_stored c.args.self.now) (message_stored c.args.other.now)).0 (sym c.are_equal_messages.ensures ∙ h))
