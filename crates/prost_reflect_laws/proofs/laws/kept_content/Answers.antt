use Rattle.prost_reflect_laws.proofs.Kept.{kept_content}
use Rattle.prost_reflect_laws.proofs.laws.kept_content.Goals as goal

pub returns : goal.returns
returns c = kept_content
