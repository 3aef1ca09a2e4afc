use Rattle.prost_reflect_types.proofs.SameFields.{flag_decided}
use Rattle.prost_reflect_types.proofs.equality.equal_flag.Goals as goal

pub returns : goal.returns
returns c = flag_decided c.args.a.now c.args.b.now c.eq.result c.eq.ensures
