use Rattle.prost_reflect_types.proofs.SameFields.{text_list_decided}
use Rattle.prost_reflect_types.proofs.equality.equal_texts.Goals as goal

pub returns : goal.returns
returns c = text_list_decided c.args.a.now c.args.b.now c.eq.result c.eq.ensures
