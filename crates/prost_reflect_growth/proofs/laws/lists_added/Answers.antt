use Rattle.prost_reflect_growth.proofs.CatalogGrow.{lists_added}
use Rattle.prost_reflect_growth.proofs.laws.lists_added.Goals as goal

pub returns : goal.returns
returns c = lists_added
