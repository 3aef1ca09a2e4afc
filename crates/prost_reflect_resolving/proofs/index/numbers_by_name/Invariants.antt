use Rattle.prost_reflect_resolving.proofs.Common.{map, take, definition_row, linked_value, IsNumbersOf}
use Rattle.prost_reflect_resolving.proofs.index.numbers_by_name.Given as goal

abbrev pub invariant-loop-value : goal.invariant-loop-value
invariant-loop-value l = IsNumbersOf l.numbers (map linked_value (map definition_row (take l.value-index l.values)))
