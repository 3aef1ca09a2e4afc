use Rattle.prost_reflect_growth.proofs.CatalogGrow.{services_grow}
use Rattle.prost_reflect_growth.proofs.laws.services_grow.Goals as goal

pub returns : goal.returns
returns c = services_grow
