use Rattle.prost_reflect_growth.proofs.CatalogGrow.{lists_grow}
use Rattle.prost_reflect_growth.proofs.laws.lists_grow.Goals as goal

pub returns : goal.returns
returns c = lists_grow
