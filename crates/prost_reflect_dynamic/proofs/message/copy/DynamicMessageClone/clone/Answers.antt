use Rattle.prost_reflect_dynamic.proofs.StoredContents.{messages_copied}
use Rattle.prost_reflect_dynamic.proofs.message.copy.DynamicMessageClone.clone.Goals as goal

pub returns : goal.returns
returns c = record { cases = messages_copied c.args.self.now c.copy_message.result c.copy_message.ensures (λ e h. h) }
