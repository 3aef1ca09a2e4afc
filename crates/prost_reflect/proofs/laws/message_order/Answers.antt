use Rattle.prost_reflect_dynamic.proofs.ContentChanges.{message_order}
use Rattle.prost_reflect.proofs.laws.message_order.Goals as goal

pub returns : goal.returns
returns c = message_order
