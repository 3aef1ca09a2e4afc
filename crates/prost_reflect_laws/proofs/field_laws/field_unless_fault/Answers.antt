use Rattle.prost_reflect_wire.proofs.FieldFaults.{field_no_fault}
use Rattle.prost_reflect_laws.proofs.FieldOrFault.{field_or_fault}
use Rattle.prost_reflect_laws.proofs.field_laws.field_unless_fault.Goals as goal

pub returns : goal.returns
returns c = λ levels bytes small. (field_or_fault levels bytes small, λ (r, (rest, f)) (e, s). field_no_fault e r levels bytes rest f.front f.within s)
