use Rattle.prost_reflect_growth.proofs.CatalogGrow.{lists_stay}
use Rattle.prost_reflect_growth.proofs.laws.lists_stay.Goals as goal

pub returns : goal.returns
returns c = lists_stay
