use Rattle.prost_reflect_dynamic.proofs.ContentChanges.{slots_after_set}
use Rattle.prost_reflect.proofs.laws.slots_after_set.Goals as goal

pub returns : goal.returns
returns c = slots_after_set
