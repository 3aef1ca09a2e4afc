use Rattle.prost_reflect_definition_checks.proofs.Common.{◌∙◌, service_row, rows_any}
use Rattle.prost_reflect_definition_checks.proofs.walk.any_service.Goals as goal

pub returns : goal.returns
returns g c = λ p is. c.any.ensures (λ x. p (service_row x)) is ∙ rows_any p service_row c.args.services.now
