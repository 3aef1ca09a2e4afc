use Rattle.prost_reflect_dynamic.proofs.ContentChanges.{slots_after_unknown}
use Rattle.prost_reflect.proofs.laws.slots_after_unknown.Goals as goal

pub returns : goal.returns
returns c = slots_after_unknown
