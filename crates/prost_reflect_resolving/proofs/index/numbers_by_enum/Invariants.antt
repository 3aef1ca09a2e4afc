use Rattle.prost_reflect_resolving.proofs.Common.{map, take, enum_row, linked_value, AreNumbersOf}
use Rattle.prost_reflect_resolving.proofs.index.numbers_by_enum.Given as goal

abbrev pub invariant-loop-declared : goal.invariant-loop-declared
invariant-loop-declared l = AreNumbersOf l.numbers.items (map (λ e. map linked_value e.values) (map enum_row (take l.declared-index l.enums)))
