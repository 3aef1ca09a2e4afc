-- A list of items as a type. For private contracts alone.
use Rattle.std.specs.Prelude.{[], ◌∷◌}
use denote.RattleType.{RattleType}
use denote.Struct.Tuple.{Tuple}
use Rattle.std.specs.Borrow.{u32}
use Rattle.std.specs.contracts.vec.Vec as vec
use Rattle.std.specs.contracts.alloc.Global as global
use Rattle.std.specs.contracts.impls.GlobalAllocator.TheImpl.{ghosts}

abbrev pub list_row : RattleType → RattleType
list_row T = vec.the_row (Tuple (u32 ∷ T ∷ [])) global.the_row ghosts
