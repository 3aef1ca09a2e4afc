use Rattle.prost_reflect_types.proofs.SameFields.{text_copied}
use Rattle.prost_reflect_types.proofs.copy.copy_text.Goals as goal

pub returns-in_ok-clone-in-Some : goal.returns-in_ok-clone-in-Some
returns-in_ok-clone-in-Some c = text_copied c.args.text.now c.in-Some.text c.in_ok-clone-in-Some.field-0 c.in-Some.is c.in_ok-clone-in-Some.ensures.cases
