use Rattle.prost_reflect_definition_checks.proofs.Common.{◌∙◌, enum_row, rows_any}
use Rattle.prost_reflect_definition_checks.proofs.walk.any_enum.Goals as goal

pub returns : goal.returns
returns g c = λ p is. c.any.ensures (λ x. p (enum_row x)) is ∙ rows_any p enum_row c.args.enums.now
