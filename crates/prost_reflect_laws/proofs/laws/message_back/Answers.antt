use Rattle.prost_reflect_laws.proofs.Values.{message_back}
use Rattle.prost_reflect_laws.proofs.laws.message_back.Goals as goal

pub returns : goal.returns
returns c = message_back
