-- The items of a block that may not be there.
use Rattle.std.specs.Prelude.{List, [], Option, None, Some}
use Rattle.std.specs.declared.alloc.Global.{Global}
use Rattle.std.specs.declared.rc.Rc.{Rc}
use Rattle.std.specs.declared.vec.Vec.{Vec}

abbrev pub block_items : {T : Type 0} → Option (Rc (Vec T Global) Global) → List T
block_items None = []
block_items (Some block) = block.value.items
