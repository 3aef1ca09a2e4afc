use Rattle.prost_reflect_types.proofs.SameFields.{number_decided}
use Rattle.prost_reflect_types.proofs.equality.equal_number.Goals as goal

pub returns : goal.returns
returns c = number_decided c.args.a.now c.args.b.now c.eq.result c.eq.ensures
