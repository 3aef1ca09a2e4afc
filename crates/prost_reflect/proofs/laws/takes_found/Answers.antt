use Rattle.prost_reflect_dynamic.proofs.OwnFields as own
use Rattle.prost_reflect.proofs.laws.takes_found.Goals as goal

pub returns : goal.returns
returns c = own.takes_found
