use Rattle.prost_reflect_dynamic.proofs.Shown.{shown_content}
use Rattle.prost_reflect.proofs.laws.shown_content.Goals as goal

pub returns : goal.returns
returns c = shown_content
