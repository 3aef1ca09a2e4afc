use Rattle.std.specs.Prelude.{◌≡◌}
use Rattle.prost_reflect_dynamic.proofs.Common.{false, nat_eq, map, ap, sym, ◌∙◌, length, true≢false, eqb-true, nil_from_length, err_from_is_err_and, value_of}
use Rattle.prost_reflect_dynamic.proofs.PartedNumbers.{none_parted, parted_more, parted_done, parted_fault}
use Rattle.prost_reflect_dynamic.proofs.message.decode.enum_list.push_numbers.Goals as goal

pub loop-rest-init : goal.loop-rest-init
loop-rest-init c = none_parted _ _ _ _ _ _ (ap (map value_of) c.in_ok-reserve.ensures.items) c.new-strays.ensures.items

pub returns-in_err-varint-clause-fault : goal.returns-in_err-varint-clause-fault
returns-in_err-varint-clause-fault c = let p = err_from_is_err_and c.from_residual-in_err-varint.result c.from_residual-in_err-varint.ensures.1 in
    let some : nat_eq (length c.loop-rest.rest.now) 0 ≡ false = sym c.is_empty.ensures ∙ c.loop-rest-test.true in
    rw (p.1, p.2) (λ ne. parted_fault _ _ _ _ _ _ _ _ c.loop-rest.invariant (λ none. true≢false (sym (ap (λ bytes. nat_eq (length bytes) 0) none) ∙ some)) c.in_err-varint.ensures.fault)

pub loop-rest-preserved : goal.loop-rest-preserved
loop-rest-preserved c = parted_more _ _ _ _ _ _ _ _ _ _ c.in_ok-varint.varint c.loop-rest.invariant c.in_ok-varint.ensures.ok c.in_ok-push_number.ensures.added c.in_ok-push_number.ensures.left

pub returns-clause-ok : goal.returns-clause-ok
returns-clause-ok c = parted_done _ _ _ _ _ _ _ c.loop-rest.invariant (nil_from_length _ (eqb-true _ 0 (sym c.is_empty.ensures ∙ c.loop-rest-test.false)))
