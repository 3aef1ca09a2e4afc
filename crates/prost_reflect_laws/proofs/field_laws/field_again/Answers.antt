use Rattle.prost_reflect_laws.proofs.SpelledValid.{field_again}
use Rattle.prost_reflect_laws.proofs.field_laws.field_again.Goals as goal

pub returns : goal.returns
returns c = field_again
