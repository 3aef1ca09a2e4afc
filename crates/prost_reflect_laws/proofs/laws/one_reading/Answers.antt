use Rattle.prost_reflect_wire.proofs.Reading.{one_reading}
use Rattle.prost_reflect_laws.proofs.laws.one_reading.Goals as goal

pub returns : goal.returns
returns c = one_reading
