use Rattle.std.specs.Prelude.{◌≡◌, ◌++◌}
use Rattle.prost_reflect_lists.proofs.Common.{drop, map, definition_row, value_number}
use Rattle.prost_reflect_lists.proofs.lists.value_numbers.Given as goal

abbrev pub invariant-loop-value : goal.invariant-loop-value
invariant-loop-value l = l.numbers.items ++ map value_number (map definition_row (drop l.value-index l.values)) ≡ map value_number (map definition_row l.values)
