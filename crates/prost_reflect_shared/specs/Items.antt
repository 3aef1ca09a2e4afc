-- The items of a shared list, and what a walk over them has left.
use Rattle.std.specs.Prelude.{List, drop}
use Rattle.std.specs.Iterator.{YieldsFirstRef}
use Rattle.std.specs.Iterator.Runs.{YieldsRefsInOrder}
use Rattle.prost_reflect_shared.specs.declared.shared_list.SharedList.{SharedList}
use Rattle.prost_reflect_shared.specs.declared.shared_items.SharedItems.{SharedItems}

-- The items in their order, without where they lie: a shared list is seen as these.
abbrev pub items_of : {T : Type 0} → SharedList T → List T
items_of list = list

abbrev pub items_left : {T : Type 0} → SharedItems T → List T
items_left it = drop it.place (items_of it.list.now)

-- What a run of calls on a walk gives: the items that it had left, in their order.
abbrev pub GivesInOrder : Type 0 → Type 0
GivesInOrder T = YieldsRefsInOrder (YieldsFirstRef (items_left {T = T})) items_left
