use Rattle.prost_reflect_definition_checks.proofs.Common.{◌∙◌, definition_row, rows_any}
use Rattle.prost_reflect_definition_checks.proofs.walk.any_definition.Goals as goal

pub returns : goal.returns
returns g c = λ p is. c.any.ensures (λ x. p (definition_row x)) is ∙ rows_any p definition_row c.args.definitions.now
