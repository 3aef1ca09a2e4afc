use Rattle.std.proofs.Common.{rules, ◌≢◌, [], sym, ◌∙◌}
use Rattle.std.proofs.lemmas.Bool.{eqb-true}
use Rattle.std.proofs.lemmas.List.{nil_from_length}
use Rattle.std.proofs.lemmas.Result.{err_from_is_err_and}
use Rattle.prost_reflect_faults.proofs.Packed.{element_parted, element_refused, elements_end}
use Rattle.prost_reflect_faults.proofs.payload.check_elements.Goals as goal

pub returns-in_err-rest-clause-fault : goal.returns-in_err-rest-clause-fault
returns-in_err-rest-clause-fault c =
    let p = err_from_is_err_and c.from_residual.result c.from_residual.ensures.1 in
    let some : c.loop-rest.rest.now ≢ [] = search rules in
    rw (p.1, p.2) (element_refused _ _ _ c.loop-rest.invariant some _ (rw c.wire_type_of-wire_type.ensures at c.in_err-rest.ensures.fault))

pub loop-rest-preserved : goal.loop-rest-preserved
loop-rest-preserved c =
    let some : c.loop-rest.rest.now ≢ [] = search rules in
    element_parted _ _ _ _ c.loop-rest.invariant some (rw c.wire_type_of-wire_type.ensures at c.in_ok-rest.ensures.ok)

pub returns-clause-ok : goal.returns-clause-ok
returns-clause-ok c =
    elements_end _ _ _ c.loop-rest.invariant (nil_from_length _ (eqb-true _ 0 (sym c.is_empty.ensures ∙ c.loop-rest-test.false)))
