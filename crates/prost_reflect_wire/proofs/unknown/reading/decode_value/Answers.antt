use Rattle.prost_reflect_wire.proofs.ValueReads.{value_only}
use Rattle.prost_reflect_wire.proofs.unknown.reading.decode_value.Goals as goal

pub returns-clause-only : goal.returns-clause-only
returns-clause-only c = value_only _ _ _ _ c.decode_payload.result c.args.number.some c.args.number.below c.decode_payload.ensures.ok c.decode_payload.ensures.fault
