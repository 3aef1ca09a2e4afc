use Rattle.prost_reflect_growth.proofs.ExtensionsGrow.{extensions_grow}
use Rattle.prost_reflect_growth.proofs.laws.extensions_grow.Goals as goal

pub returns : goal.returns
returns c = extensions_grow
