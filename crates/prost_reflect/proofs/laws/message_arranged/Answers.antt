use Rattle.prost_reflect_dynamic.proofs.ContentChanges.{message_arranged}
use Rattle.prost_reflect.proofs.laws.message_arranged.Goals as goal

pub returns : goal.returns
returns c = message_arranged
