use Rattle.std.specs.Prelude.{◌≡◌}
use Rattle.prost_reflect_dynamic.proofs.Common.{false, nat_eq, ap, sym, ◌∙◌, length, true≢false, eqb-true, nil_from_length, err_from_is_err_and}
use Rattle.prost_reflect_dynamic.proofs.ListElements.{packed_more, packed_done, packed_fault}
use Rattle.prost_reflect_dynamic.proofs.message.decode.list.push_all.Goals as goal

pub returns-in_err-element-clause-fault : goal.returns-in_err-element-clause-fault
returns-in_err-element-clause-fault c = let p = err_from_is_err_and c.from_residual-in_err-element.result c.from_residual-in_err-element.ensures.1 in
    let some : nat_eq (length c.loop-rest.rest.now) 0 ≡ false = sym c.is_empty.ensures ∙ c.loop-rest-test.true in
    rw (p.1, p.2) (λ ne. packed_fault _ _ _ _ _ _ _ c.loop-rest.invariant c.wire_type_of-wire_type.ensures (λ none. true≢false (sym (ap (λ bytes. nat_eq (length bytes) 0) none) ∙ some)) (c.in_err-element.ensures.fault ne))

pub loop-rest-preserved : goal.loop-rest-preserved
loop-rest-preserved c = packed_more _ _ _ _ _ _ _ _ _ c.loop-rest.invariant c.wire_type_of-wire_type.ensures c.in_ok-element.ensures.ok c.in_ok-push.ensures.items

pub returns-clause-ok : goal.returns-clause-ok
returns-clause-ok c = packed_done _ _ _ _ _ c.loop-rest.invariant (nil_from_length _ (eqb-true _ 0 (sym c.is_empty.ensures ∙ c.loop-rest-test.false)))
