use Rattle.prost_reflect_dynamic.proofs.ContentChanges.{slots_determine}
use Rattle.prost_reflect.proofs.laws.slots_determine.Goals as goal

pub returns : goal.returns
returns c = slots_determine
