use Rattle.prost_reflect_growth.proofs.CatalogGrow.{enums_grow}
use Rattle.prost_reflect_growth.proofs.laws.enums_grow.Goals as goal

pub returns : goal.returns
returns c = enums_grow
