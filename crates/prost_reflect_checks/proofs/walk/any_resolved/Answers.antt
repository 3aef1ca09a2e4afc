use Rattle.prost_reflect_checks.proofs.Common.{◌∙◌, resolved_row, rows_any}
use Rattle.prost_reflect_checks.proofs.walk.any_resolved.Goals as goal

pub returns : goal.returns
returns g c = λ p is. c.any.ensures (λ x. p (resolved_row x)) is ∙ rows_any p resolved_row c.args.fields.now
