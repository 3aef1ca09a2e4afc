use Rattle.prost_reflect_growth.proofs.GrownCatalog.{grown_is_catalog}
use Rattle.prost_reflect_growth.proofs.laws.grown_is_catalog.Goals as goal

pub returns : goal.returns
returns c = grown_is_catalog
