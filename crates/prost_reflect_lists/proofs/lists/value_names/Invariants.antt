use Rattle.std.specs.Prelude.{◌≡◌, ◌++◌}
use Rattle.prost_reflect_lists.proofs.Common.{map, drop, text_list, definition_row, value_names}
use Rattle.prost_reflect_lists.proofs.lists.value_names.Given as goal

abbrev pub invariant-loop-value : goal.invariant-loop-value
invariant-loop-value l = text_list l.names.items ++ value_names (map definition_row (drop l.value-index l.values)) ≡ value_names (map definition_row l.values)
