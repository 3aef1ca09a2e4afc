use Rattle.prost_reflect_checks.proofs.Common.{List, Vec, Global, map, sym, ap, ◌∙◌, list_any, ResolvedField, resolved_row, row_found, row_left}
use Rattle.prost_reflect_checks.proofs.walk.any_resolved_in.Goals as goal

pub returns-then-any_resolved : goal.returns-then-any_resolved
returns-then-any_resolved g c = λ p is.
    let told = c.any_resolved.ensures p is ∙ ap (λ (fs : List ResolvedField). list_any p (map resolved_row fs)) c.as_slice.ensures.value in
    sym (c.loop-fields.invariant p is ∙ row_found (λ fs. list_any p fs) (λ (v : Vec ResolvedField Global). map resolved_row v.items) c.args.lists.now c.loop-fields.fields-index c.fields-item.result c.loop-fields-test.true c.fields-item.is (sym told ∙ c.if-any_resolved.true))

pub loop-fields-preserved : goal.loop-fields-preserved
loop-fields-preserved g c = λ p is.
    let told = c.any_resolved.ensures p is ∙ ap (λ (fs : List ResolvedField). list_any p (map resolved_row fs)) c.as_slice.ensures.value in
    c.loop-fields.invariant p is ∙ row_left (λ fs. list_any p fs) (λ (v : Vec ResolvedField Global). map resolved_row v.items) c.args.lists.now c.loop-fields.fields-index c.fields-item.result c.loop-fields-test.true c.fields-item.is (sym told ∙ c.if-any_resolved.false)
