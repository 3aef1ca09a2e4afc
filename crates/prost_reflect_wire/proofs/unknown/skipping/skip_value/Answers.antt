use Rattle.prost_reflect_wire.proofs.ValueReads.{skip_only}
use Rattle.prost_reflect_wire.proofs.unknown.skipping.skip_value.Goals as goal

pub returns-clause-only : goal.returns-clause-only
returns-clause-only c = skip_only _ _ _ _ c.skip_payload.result c.args.number.some c.args.number.below c.skip_payload.ensures.ok c.skip_payload.ensures.fault
