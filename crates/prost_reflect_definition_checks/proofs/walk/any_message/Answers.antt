use Rattle.prost_reflect_definition_checks.proofs.Common.{◌∙◌, message_row, rows_any}
use Rattle.prost_reflect_definition_checks.proofs.walk.any_message.Goals as goal

pub returns : goal.returns
returns g c = λ p is. c.any.ensures (λ x. p (message_row x)) is ∙ rows_any p message_row c.args.messages.now
