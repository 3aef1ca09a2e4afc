use Rattle.std.specs.Prelude.{◌≡◌, ◌++◌}
use Rattle.prost_reflect_lists.proofs.Common.{map, drop, enum_row, enum_lists_row, enum_lists}
use Rattle.prost_reflect_base.specs.Below.{catalog_below}
use Rattle.prost_reflect_lists.proofs.lists.lists_of_enums.Given as goal

abbrev pub invariant-loop-declared : goal.invariant-loop-declared
invariant-loop-declared l =
    map enum_lists_row l.lists ++ map enum_lists (map enum_row (drop l.declared-index l.enums)) ≡ (catalog_below l.base).enums ++ map enum_lists (map enum_row l.enums)
