use Rattle.prost_reflect_maps.proofs.Common.{sym, subst, IsAscending}
use Rattle.prost_reflect_maps.proofs.ItemChanges.{ascending_with}
use Rattle.prost_reflect_maps.proofs.items.ItemList.get_mut.Goals as goal

pub invariant_of-self-lent : goal.invariant_of-self-lent
invariant_of-self-lent g c =
    λ o. (
      λ w. subst IsAscending (sym (c.item_mut.follows.holds w)) (ascending_with c.self.inside.items.items c.args.number w c.self.invariant),
      subst IsAscending (sym c.item_mut.follows.holds-at-none) c.self.invariant,
    )
