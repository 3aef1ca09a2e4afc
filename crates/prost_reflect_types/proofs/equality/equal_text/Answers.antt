use Rattle.prost_reflect_types.proofs.SameFields.{texts_decided}
use Rattle.prost_reflect_types.proofs.equality.equal_text.Goals as goal

pub returns : goal.returns
returns c = texts_decided c.args.a.now c.args.b.now c.eq.result c.eq.ensures
