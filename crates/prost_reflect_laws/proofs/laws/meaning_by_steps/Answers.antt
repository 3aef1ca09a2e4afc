use Rattle.prost_reflect_wire.proofs.Steps.{meaning_steps}
use Rattle.prost_reflect_laws.proofs.laws.meaning_by_steps.Goals as goal

pub returns : goal.returns
returns c = meaning_steps
