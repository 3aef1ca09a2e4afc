use Rattle.std.specs.Prelude.{◌≡◌}
use Rattle.prost_reflect_proto.proofs.Common.{false, nat_eq, ap, sym, subst, ◌∙◌, length, true≢false, err_from_is_err_and, eqb-true, nil_from_length, Fields, all_found}
use Rattle.prost_reflect_proto.proofs.FieldsFound.{fields_none, known_read, unknown_read, no_key, no_unknown, no_known}
use Rattle.prost_reflect_proto.proofs.fields.fields_in.Goals as goal

pub loop-rows-init : goal.loop-rows-init
loop-rows-init c = rw c.in_ok-fields.ensures.items (fields_none _ _ _)

pub returns-in_err-number-clause-fault : goal.returns-in_err-number-clause-fault
returns-in_err-number-clause-fault c = let p = err_from_is_err_and c.from_residual-in_err-number.result c.from_residual-in_err-number.ensures.1 in
    let some : nat_eq (length c.loop-rows.rest.now) 0 ≡ false = sym c.is_empty.ensures ∙ c.loop-rows-test.true in
    rw (p.1, p.2) (λ ne. no_key _ _ _ _ _ c.loop-rows.invariant _ (λ none. true≢false (sym (ap (λ bytes. nat_eq (length bytes) 0) none) ∙ some)) c.in_err-number.ensures.fault)

pub returns-in_err-rest-in-Some-clause-fault : goal.returns-in_err-rest-in-Some-clause-fault
returns-in_err-rest-in-Some-clause-fault c = let p = err_from_is_err_and c.from_residual-in_err-rest-in-Some.result c.from_residual-in_err-rest-in-Some.ensures.1 in
    rw (p.1, p.2) (λ ne. no_known _ _ _ _ _ c.loop-rows.invariant _ _ _ _ c.in-Some.kind c.in_ok-number.ensures.ok (rw (c.rows-rows.ensures, c.get.ensures.value) at c.in-Some.ensures) (rw c.get-in-Some.ensures.value at (c.in_err-rest-in-Some.ensures.fault ne)))

pub returns-in_err-rest-in-None-clause-fault : goal.returns-in_err-rest-in-None-clause-fault
returns-in_err-rest-in-None-clause-fault c = let p = err_from_is_err_and c.from_residual-in_err-rest-in-None.result c.from_residual-in_err-rest-in-None.ensures.1 in
    rw (p.1, p.2) (λ ne. no_unknown _ _ _ _ _ c.loop-rows.invariant _ _ _ _ c.in_ok-number.ensures.ok (rw (c.rows-rows.ensures, c.get.ensures.value) at c.in-None.ensures) c.in_err-rest-in-None.ensures.fault)

pub loop-rows-preserved-in_ok-rest-in-Some : goal.loop-rows-preserved-in_ok-rest-in-Some
loop-rows-preserved-in_ok-rest-in-Some c =
    known_read _ _ _ _ _ c.loop-rows.invariant _ _ _ _ c.in-Some.kind _ c.in_ok-number.ensures.ok (rw (c.rows-rows.ensures, c.get.ensures.value) at c.in-Some.ensures) (rw c.get-in-Some.ensures.value at c.in_ok-rest-in-Some.ensures.ok)

pub loop-rows-preserved : goal.loop-rows-preserved
loop-rows-preserved c =
    unknown_read _ _ _ _ _ c.loop-rows.invariant _ _ _ _ c.in_ok-number.ensures.ok (rw (c.rows-rows.ensures, c.get.ensures.value) at c.in-None.ensures) c.in_ok-rest-in-None.ensures.ok

pub returns-clause-ok : goal.returns-clause-ok
returns-clause-ok c =
    subst (Fields c.args.levels c.args.record_type (all_found c.loop-rows.fields.items) c.args.body.now) (nil_from_length _ (eqb-true _ 0 (sym c.is_empty.ensures ∙ c.loop-rows-test.false))) c.loop-rows.invariant
