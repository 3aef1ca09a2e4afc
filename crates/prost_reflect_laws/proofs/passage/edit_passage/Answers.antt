use Rattle.prost_reflect_laws.proofs.PassageLaws.{edit_passage}
use Rattle.prost_reflect_laws.proofs.passage.edit_passage.Goals as goal

pub returns : goal.returns
returns c = edit_passage
