use Rattle.prost_reflect_wire.proofs.FieldFaults.{field_only}
use Rattle.prost_reflect_laws.proofs.field_laws.only_too_deep.Goals as goal

pub returns : goal.returns
returns c = λ levels r bytes rest e f s. field_only e r levels bytes rest f s
