use Rattle.prost_reflect_dynamic.proofs.KeptSlots.{kept_after_writing}
use Rattle.prost_reflect.proofs.laws.kept_after_writing.Goals as goal

pub returns : goal.returns
returns c = kept_after_writing
