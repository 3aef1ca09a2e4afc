use Rattle.std.specs.Prelude.{◌≡◌, ◌∷◌, ◌++◌}
use Rattle.prost_reflect_proto.proofs.Common.{false, nat_eq, ap, sym, ◌∙◌, length, true≢false, [], w32, cast_signed, cast_unsigned, FoundNumber, all_found, err_from_is_err_and, eqb-true, nil_from_length}
use Rattle.prost_reflect_proto.proofs.FieldsFound.{packed_more, packed_done, packed_fault, found_pushed, low_kept}
use Rattle.prost_reflect_proto.proofs.fields.push_packed.Goals as goal

pub returns-in_err-value-clause-fault : goal.returns-in_err-value-clause-fault
returns-in_err-value-clause-fault c = let p = err_from_is_err_and c.from_residual.result c.from_residual.ensures.1 in
    let some : nat_eq (length c.loop-rest.rest.now) 0 ≡ false = sym c.is_empty.ensures ∙ c.loop-rest-test.true in
    rw (p.1, p.2) (λ ne. packed_fault _ _ _ _ _ _ c.loop-rest.invariant (λ none. true≢false (sym (ap (λ bytes. nat_eq (length bytes) 0) none) ∙ some)) c.in_err-value.ensures.fault)

pub loop-rest-preserved : goal.loop-rest-preserved
loop-rest-preserved c =
    let same = ap (λ z. cast_signed w32 (cast_unsigned w32 z)) c.low_i32.ensures ∙ low_kept c.in_ok-value.value in
    packed_more _ _ _ _ _ _ _ _ c.loop-rest.invariant c.in_ok-value.ensures.ok
    (found_pushed _ _ _ c.in_ok-push.ensures.items ∙ ap (λ z. all_found c.loop-rest.fields.items ++ (c.args.number, FoundNumber z) ∷ []) same)

pub returns-clause-ok : goal.returns-clause-ok
returns-clause-ok c = packed_done _ _ _ _ _ c.loop-rest.invariant (nil_from_length _ (eqb-true _ 0 (sym c.is_empty.ensures ∙ c.loop-rest-test.false)))
