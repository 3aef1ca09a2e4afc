use Rattle.prost_reflect_laws.proofs.Common.{short_key_front, value_no_fault}
use Rattle.prost_reflect_laws.proofs.FieldOrFault.{value_front_or_fault}
use Rattle.prost_reflect_laws.proofs.field_laws.value_unless_fault.Goals as goal

pub returns : goal.returns
returns c = λ levels n w bytes some below small.
    (value_front_or_fault levels n w bytes some below small, λ (p, (rest, v)) (e, s). value_no_fault e n w levels p bytes rest (short_key_front n w bytes some below) v s)
