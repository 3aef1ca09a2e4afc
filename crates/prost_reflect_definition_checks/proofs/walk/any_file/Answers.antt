use Rattle.prost_reflect_definition_checks.proofs.Common.{◌∙◌, rows_any}
use Rattle.prost_reflect_definition_checks.proofs.walk.any_file.Goals as goal

pub returns : goal.returns
returns g c = λ p is. c.any.ensures (λ f. p f.now) is ∙ rows_any p (λ f. f.now) c.args.files.now
