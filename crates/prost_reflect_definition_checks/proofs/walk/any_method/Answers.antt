use Rattle.prost_reflect_definition_checks.proofs.Common.{map, sym, ap, ◌∙◌, list_any, definition_row, service_row, row_found, row_left}
use Rattle.prost_reflect_definition_checks.proofs.walk.any_method.Goals as goal

pub returns-then-any_definition : goal.returns-then-any_definition
returns-then-any_definition g c = λ p is.
    let told = c.any_definition.ensures p is ∙ ap (λ xs. list_any p (map definition_row xs)) c.as_slice.ensures.value in
    sym (c.loop-service.invariant p is ∙ row_found (λ m. list_any p m.methods) service_row c.args.services.now c.loop-service.service-index c.service-item.result c.loop-service-test.true c.service-item.is (sym told ∙ c.if-any_definition.true))

pub loop-service-preserved : goal.loop-service-preserved
loop-service-preserved g c = λ p is.
    let told = c.any_definition.ensures p is ∙ ap (λ xs. list_any p (map definition_row xs)) c.as_slice.ensures.value in
    c.loop-service.invariant p is ∙ row_left (λ m. list_any p m.methods) service_row c.args.services.now c.loop-service.service-index c.service-item.result c.loop-service-test.true c.service-item.is (sym told ∙ c.if-any_definition.false)
