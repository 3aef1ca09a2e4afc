use Rattle.prost_reflect_maps.proofs.Common.{subst, sym, IsAscending}
use Rattle.prost_reflect_maps.proofs.ItemChanges.{ascending_without}
use Rattle.prost_reflect_maps.proofs.items.ItemList.remove.Goals as goal

pub invariant_of-self : goal.invariant_of-self
invariant_of-self g c = subst IsAscending (sym c.remove_at.ensures.items) (ascending_without c.self.inside.items.items c.args.number c.self.invariant)
