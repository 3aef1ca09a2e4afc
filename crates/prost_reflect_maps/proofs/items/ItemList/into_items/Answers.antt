use Rattle.prost_reflect_maps.proofs.Common.{subst, IsAscending}
use Rattle.prost_reflect_maps.proofs.items.ItemList.into_items.Goals as goal

pub returns-clause-ascending : goal.returns-clause-ascending
returns-clause-ascending g c = subst IsAscending c.self.view_is c.self.invariant
