use Rattle.prost_reflect_dynamic.proofs.KeptSlots.{kept_after_unknown}
use Rattle.prost_reflect.proofs.laws.kept_after_unknown.Goals as goal

pub returns : goal.returns
returns c = kept_after_unknown
