use Rattle.prost_reflect_dynamic.proofs.Common.{and_parts, ordered, exclusive, content_of}
use Rattle.prost_reflect_dynamic.proofs.message.DynamicMessage.is_encodable.Goals as goal

pub returns-clause-order : goal.returns-clause-order
returns-clause-order c = λ yes. (and_parts (ordered (content_of c.args.self.now)) (exclusive (content_of c.args.self.now)) (c.message_fits.ensures.arranged yes)).0

pub returns-clause-members : goal.returns-clause-members
returns-clause-members c = λ yes. (and_parts (ordered (content_of c.args.self.now)) (exclusive (content_of c.args.self.now)) (c.message_fits.ensures.arranged yes)).1
