use Rattle.std.proofs.lemmas.Result.{err_from_is_err_and}
use Rattle.prost_reflect_wire.proofs.FieldFaults.{field_no_fault, field_only, only_memory}
use Rattle.prost_reflect_wire.proofs.PlaceFaults.{key_stands_in_field, value_stands_in_field}
use Rattle.prost_reflect_wire.proofs.RecordFronts.{field_front, field_once, too_deep}
use Rattle.prost_reflect_wire.proofs.UnknownViews.{record_of_field}
use Rattle.prost_reflect_wire.proofs.unknown.UnknownField.decode.Goals as goal

pub returns-in_err-number-clause-only : goal.returns-in_err-number-clause-only
returns-in_err-number-clause-only c = λ r rest f. let q = err_from_is_err_and c.from_residual.result c.from_residual.ensures.1 in
    rw (q.1, q.2) (only_memory _ (λ _. field_no_fault _ r _ _ rest f.front f.within (key_stands_in_field _ _ _ c.in_err-number.ensures.fault)))

pub returns-in_err-value-clause-only : goal.returns-in_err-value-clause-only
returns-in_err-value-clause-only c = λ r rest f. let q = err_from_is_err_and c.from_residual-in_err-value.result c.from_residual-in_err-value.ensures.1 in
    rw (q.1, q.2) (only_memory _ (λ ne. field_no_fault _ r _ _ rest f.front f.within (value_stands_in_field _ _ _ _ _ _ c.in_ok-number.ensures.ok (c.in_err-value.ensures.fault ne))))

pub returns-clause-ok : goal.returns-clause-ok
returns-clause-ok c = rw (record_of_field, c.new.ensures.number, c.new.ensures.value) (field_front _ _ _ _ _ _ _ c.in_ok-number.ensures.ok c.in_ok-value.ensures.ok)

pub returns-clause-only : goal.returns-clause-only
returns-clause-only c = λ r rest f.
    rw (record_of_field, c.new.ensures.number, c.new.ensures.value) (field_once _ _ r _ _ rest (field_front _ _ _ _ _ _ _ c.in_ok-number.ensures.ok c.in_ok-value.ensures.ok) f)

pub returns-in_err-number-clause-deep : goal.returns-in_err-number-clause-deep
returns-in_err-number-clause-deep c = λ r rest f deep. let q = err_from_is_err_and c.from_residual.result c.from_residual.ensures.1 in
    rw (q.1, q.2) (λ _. let s = field_only _ r c.args.levels _ rest f (key_stands_in_field _ _ _ c.in_err-number.ensures.fault) in s.0)

pub returns-in_err-value-clause-deep : goal.returns-in_err-value-clause-deep
returns-in_err-value-clause-deep c = λ r rest f deep. let q = err_from_is_err_and c.from_residual-in_err-value.result c.from_residual-in_err-value.ensures.1 in
    rw (q.1, q.2) (λ ne. let s = field_only _ r _ _ rest f (value_stands_in_field _ _ _ _ _ _ c.in_ok-number.ensures.ok (c.in_err-value.ensures.fault ne)) in s.0)

pub returns-clause-deep : goal.returns-clause-deep
returns-clause-deep c = λ r rest f deep. too_deep _ r _ _ rest _ f deep (field_front _ _ _ _ _ _ _ c.in_ok-number.ensures.ok c.in_ok-value.ensures.ok)
