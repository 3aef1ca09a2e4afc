use Rattle.std.specs.Prelude.{◌≡◌}
use Rattle.prost_reflect_dynamic.proofs.Common.{false, nat_eq, ap, sym, ◌∙◌, length, true≢false, err_from_is_err_and, eq-eqb, ne_eqb}
use Rattle.prost_reflect_dynamic.proofs.MapEntries.{entry_start, no_key_there, key_there, value_there, other_there, no_key_value, no_value, no_other}
use Rattle.prost_reflect_dynamic.proofs.message.decode.map.entry_at.Goals as goal

pub loop-rest-init : goal.loop-rest-init
loop-rest-init c = entry_start _ _ _ _ _ _ _ c.default_of-key.ensures c.absent_value-value.ensures

pub returns-in_err-number-clause-fault : goal.returns-in_err-number-clause-fault
returns-in_err-number-clause-fault c = let p = err_from_is_err_and c.from_residual.result c.from_residual.ensures.1 in
    let some : nat_eq (length c.loop-rest.rest.now) 0 ≡ false = sym c.is_empty.ensures ∙ c.loop-rest-test.true in
    rw (p.1, p.2) (λ ne. no_key_there _ _ _ _ _ _ _ _ c.loop-rest.invariant _ (λ none. true≢false (sym (ap (λ bytes. nat_eq (length bytes) 0) none) ∙ some)) c.in_err-number.ensures.fault)

pub returns-in_err-read-clause-fault : goal.returns-in_err-read-clause-fault
returns-in_err-read-clause-fault c = let p = err_from_is_err_and c.from_residual-in_err-read.result c.from_residual-in_err-read.ensures.1 in
    rw (p.1, p.2) (λ ne. no_key_value _ _ _ _ _ _ _ _ c.loop-rest.invariant _ _ _ c.in_ok-number.ensures.ok _ (eq-eqb _ 1 (sym c.get.ensures.value ∙ c.if-get-eq1.true)) (c.in_err-read.ensures.fault ne))

pub loop-rest-preserved-then-get-eq1 : goal.loop-rest-preserved-then-get-eq1
loop-rest-preserved-then-get-eq1 c =
    key_there _ _ _ _ _ _ _ _ c.loop-rest.invariant _ _ _ c.in_ok-number.ensures.ok _ _ (eq-eqb _ 1 (sym c.get.ensures.value ∙ c.if-get-eq1.true)) c.in_ok-read.ensures.ok

pub returns-in_err-read-2-clause-fault : goal.returns-in_err-read-2-clause-fault
returns-in_err-read-2-clause-fault c = let p = err_from_is_err_and c.from_residual-in_err-read-2.result c.from_residual-in_err-read-2.ensures.1 in
    rw (p.1, p.2) (λ ne. no_value _ _ _ _ _ _ _ _ c.loop-rest.invariant _ _ _ c.in_ok-number.ensures.ok _ (eq-eqb _ 2 (sym c.get-else-get-eq1.ensures.value ∙ c.if-get-eq2.true)) (c.in_err-read-2.ensures.fault ne))

pub loop-rest-preserved-then-get-eq2 : goal.loop-rest-preserved-then-get-eq2
loop-rest-preserved-then-get-eq2 c =
    value_there _ _ _ _ _ _ _ _ c.loop-rest.invariant _ _ _ c.in_ok-number.ensures.ok _ _ (eq-eqb _ 2 (sym c.get-else-get-eq1.ensures.value ∙ c.if-get-eq2.true)) c.in_ok-read-2.ensures.ok

pub returns-in_err-rest-clause-fault : goal.returns-in_err-rest-clause-fault
returns-in_err-rest-clause-fault c = let p = err_from_is_err_and c.from_residual-in_err-rest.result c.from_residual-in_err-rest.ensures.1 in
    rw (p.1, p.2) (λ ne. no_other _ _ _ _ _ _ _ _ c.loop-rest.invariant _ _ _ c.in_ok-number.ensures.ok _ (ne_eqb _ 1 (λ is. c.if-get-eq1.false (c.get.ensures.value ∙ is)))
    (ne_eqb _ 2 (λ is. c.if-get-eq2.false (c.get-else-get-eq1.ensures.value ∙ is))) c.in_err-rest.ensures.fault)

pub loop-rest-preserved : goal.loop-rest-preserved
loop-rest-preserved c =
    other_there _ _ _ _ _ _ _ _ c.loop-rest.invariant _ _ _ c.in_ok-number.ensures.ok _ (ne_eqb _ 1 (λ is. c.if-get-eq1.false (c.get.ensures.value ∙ is)))
    (ne_eqb _ 2 (λ is. c.if-get-eq2.false (c.get-else-get-eq1.ensures.value ∙ is))) c.in_ok-rest.ensures.ok
