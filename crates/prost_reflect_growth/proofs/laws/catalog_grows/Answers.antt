use Rattle.prost_reflect_growth.proofs.GrownCatalog.{catalog_grows}
use Rattle.prost_reflect_growth.proofs.laws.catalog_grows.Goals as goal

pub returns : goal.returns
returns c = catalog_grows
