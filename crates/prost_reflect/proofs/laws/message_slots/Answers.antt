use Rattle.prost_reflect_dynamic.proofs.ContentChanges.{message_slots}
use Rattle.prost_reflect.proofs.laws.message_slots.Goals as goal

pub returns : goal.returns
returns c = message_slots
