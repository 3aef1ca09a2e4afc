use Rattle.prost_reflect_definition_checks.proofs.Common.{map, sym, ap, ◌∙◌, list_any, definition_row, message_row, row_found, row_left}
use Rattle.prost_reflect_definition_checks.proofs.walk.any_in_messages.Goals as goal

pub returns-then-any_definition : goal.returns-then-any_definition
returns-then-any_definition g c = λ p is.
    let told = c.any_definition.ensures p is ∙ ap (λ xs. list_any p (map definition_row xs)) c.as_slice.ensures.value in
    sym (c.loop-message.invariant p is ∙ row_found (λ m. list_any p m.fields) message_row c.args.messages.now c.loop-message.message-index c.message-item.result c.loop-message-test.true c.message-item.is (sym told ∙ c.if-any_definition.true))

pub loop-message-preserved : goal.loop-message-preserved
loop-message-preserved g c = λ p is.
    let told = c.any_definition.ensures p is ∙ ap (λ xs. list_any p (map definition_row xs)) c.as_slice.ensures.value in
    c.loop-message.invariant p is ∙ row_left (λ m. list_any p m.fields) message_row c.args.messages.now c.loop-message.message-index c.message-item.result c.loop-message-test.true c.message-item.is (sym told ∙ c.if-any_definition.false)
