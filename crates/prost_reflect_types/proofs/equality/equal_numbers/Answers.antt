use Rattle.prost_reflect_types.proofs.SameFields.{number_list_decided}
use Rattle.prost_reflect_types.proofs.equality.equal_numbers.Goals as goal

pub returns : goal.returns
returns c = number_list_decided c.args.a.now c.args.b.now c.eq.result c.eq.ensures
