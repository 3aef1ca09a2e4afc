use Rattle.prost_reflect_maps.proofs.Common.{subst, sym, IsAscending}
use Rattle.prost_reflect_maps.proofs.ItemChanges.{ascending_put_item}
use Rattle.prost_reflect_maps.proofs.Results.{either}
use Rattle.prost_reflect_maps.proofs.items.ItemList.insert.Goals as goal

pub invariant_of-self : goal.invariant_of-self
invariant_of-self g c = either c.put.result c.put.ensures.ok c.put.ensures.err
    (λ is. subst IsAscending (sym is) (ascending_put_item c.self.inside.items.items c.args.number c.args.item c.self.invariant))
    (λ is. subst IsAscending (sym is) c.self.invariant)
