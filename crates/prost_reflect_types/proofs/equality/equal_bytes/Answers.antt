use Rattle.prost_reflect_types.proofs.SameFields.{raw_decided}
use Rattle.prost_reflect_types.proofs.equality.equal_bytes.Goals as goal

pub returns : goal.returns
returns c = raw_decided c.args.a.now c.args.b.now c.eq.result c.eq.ensures
