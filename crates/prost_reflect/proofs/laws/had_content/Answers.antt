use Rattle.prost_reflect_dynamic.proofs.Had.{had_content}
use Rattle.prost_reflect.proofs.laws.had_content.Goals as goal

pub returns : goal.returns
returns c = had_content
