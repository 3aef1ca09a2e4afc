use Rattle.prost_reflect_wire.proofs.Common.{ℕ, subst, err_from_is_err_and, ValueFront, ValueFault, payload_of}
use Rattle.prost_reflect_wire.proofs.KeyFronts.{short_key_front}
use Rattle.prost_reflect_wire.proofs.FieldFaults.{value_no_fault, value_fault_only, only_memory}
use Rattle.prost_reflect_wire.proofs.PlaceFaults.{value_stands_in_value}
use Rattle.prost_reflect_wire.proofs.RecordFronts.{value_once, value_too_deep}
use Rattle.prost_reflect_wire.proofs.UnknownViews.{record_of_field}
use Rattle.prost_reflect_wire.proofs.unknown.UnknownField.decode_value.Goals as goal

pub returns-in_err-value-clause-fault : goal.returns-in_err-value-clause-fault
returns-in_err-value-clause-fault c = let q = err_from_is_err_and c.from_residual.result c.from_residual.ensures.1 in
    let k = short_key_front c.args.number c.args.wire_type c.args.cursor.now.now c.requires.some c.requires.below in
    rw (q.1, q.2) (λ ne. value_stands_in_value _ _ _ _ _ k (subst (λ (n : ℕ). ValueFault c.in_err-value.field-0.0 n c.args.wire_type c.args.levels c.args.cursor.now.now) c.new-number.ensures (c.in_err-value.ensures.fault ne)))

pub returns-in_err-value-clause-only : goal.returns-in_err-value-clause-only
returns-in_err-value-clause-only c = λ p rest f. let q = err_from_is_err_and c.from_residual.result c.from_residual.ensures.1 in
    let k = short_key_front c.args.number c.args.wire_type c.args.cursor.now.now c.requires.some c.requires.below in
    rw (q.1, q.2) (only_memory _ (λ ne. value_no_fault _ _ _ _ p _ rest k f
    (value_stands_in_value _ _ _ _ _ k (subst (λ (n : ℕ). ValueFault c.in_err-value.field-0.0 n c.args.wire_type c.args.levels c.args.cursor.now.now) c.new-number.ensures (c.in_err-value.ensures.fault ne)))))

pub returns-clause-only : goal.returns-clause-only
returns-clause-only c = λ p rest f.
    let read = subst (λ (n : ℕ). ValueFront n c.args.wire_type c.args.levels (payload_of c.in_ok-value.value) c.args.cursor.now.now c.in_ok-value.rest.now) c.new-number.ensures c.in_ok-value.ensures.ok in
    rw (record_of_field, c.new.ensures.value) (value_once _ _ _ _ p _ _ rest read f)

pub returns-in_err-value-clause-deep : goal.returns-in_err-value-clause-deep
returns-in_err-value-clause-deep c = λ p rest wire f deep. let q = err_from_is_err_and c.from_residual.result c.from_residual.ensures.1 in
    let k = short_key_front c.args.number c.args.wire_type c.args.cursor.now.now c.requires.some c.requires.below in
    rw (q.1, q.2) (λ ne. value_fault_only _ _ _ _ p _ rest k wire f
    (value_stands_in_value _ _ _ _ _ k (subst (λ (n : ℕ). ValueFault c.in_err-value.field-0.0 n c.args.wire_type c.args.levels c.args.cursor.now.now) c.new-number.ensures (c.in_err-value.ensures.fault ne))))

pub returns-clause-deep : goal.returns-clause-deep
returns-clause-deep c = λ p rest wire f deep.
    let read = subst (λ (n : ℕ). ValueFront n c.args.wire_type c.args.levels (payload_of c.in_ok-value.value) c.args.cursor.now.now c.in_ok-value.rest.now) c.new-number.ensures c.in_ok-value.ensures.ok in
    value_too_deep _ _ _ p _ _ rest _ wire f deep read
