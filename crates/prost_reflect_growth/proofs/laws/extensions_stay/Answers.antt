use Rattle.prost_reflect_growth.proofs.ExtensionsGrow.{extensions_stay}
use Rattle.prost_reflect_growth.proofs.laws.extensions_stay.Goals as goal

pub returns : goal.returns
returns c = extensions_stay
