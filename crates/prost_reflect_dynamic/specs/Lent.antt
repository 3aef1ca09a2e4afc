-- The types that a value holds, as the logic holds them, for the clauses on what is lent for writing.
use denote.RattleType.{RattleType}
use Rattle.std.specs.Borrow.{u8}
use Rattle.std.specs.contracts.alloc.Global as global
use Rattle.std.specs.contracts.vec.Vec as vec
use Rattle.std.specs.contracts.string.String as text
use Rattle.std.specs.contracts.collections.BTreeMap as tree
use Rattle.std.specs.contracts.impls.GlobalAllocator.TheImpl.{ghosts}
use Rattle.prost_reflect_dynamic.specs.contracts.value.MapKey as key
use Rattle.prost_reflect_dynamic.specs.contracts.value.MapKeyOrd.TheImpl as ord
use Rattle.prost_reflect_dynamic.specs.contracts.value.MapKeyPartialEq.TheImpl as eq
use Rattle.prost_reflect_dynamic.specs.contracts.value.MapKeyPartialOrd.TheImpl as partial_ord
use Rattle.prost_reflect_dynamic.specs.contracts.value.Value.{the_row}

abbrev pub text_row : RattleType
text_row = text.the_row global.the_row ghosts

abbrev pub bytes_row : RattleType
bytes_row = vec.the_row u8 global.the_row ghosts

abbrev pub list_row : RattleType
list_row = vec.the_row the_row global.the_row ghosts

abbrev pub map_row : RattleType
map_row = tree.the_row key.the_row the_row global.the_row ord.ghosts eq.ghosts partial_ord.ghosts ghosts
