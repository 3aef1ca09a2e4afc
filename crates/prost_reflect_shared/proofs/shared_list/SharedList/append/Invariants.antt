use Rattle.std.specs.Prelude.{◌≡◌, ◌++◌}
use Rattle.std.specs.Vec.Iter.{into_iter_items}
use Rattle.prost_reflect_shared.specs.Items.{items_of}
use Rattle.prost_reflect_shared.proofs.shared_list.SharedList.append.Given as goal

-- each item is there or still to come
abbrev pub invariant-loop-item : goal.invariant-loop-item
invariant-loop-item g l = items_of l.self ++ into_iter_items l.item-iterator ≡ items_of l.fn.self ++ l.fn.items.items
