use Rattle.prost_reflect_growth.proofs.CatalogGrow.{files_grow}
use Rattle.prost_reflect_growth.proofs.laws.files_grow.Goals as goal

pub returns : goal.returns
returns c = files_grow
