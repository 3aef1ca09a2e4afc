use Rattle.prost_reflect_wire.proofs.RecordFronts.{field_once}
use Rattle.prost_reflect_laws.proofs.field_laws.one_field.Goals as goal

pub returns : goal.returns
returns c = field_once
