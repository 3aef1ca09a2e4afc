use Rattle.prost_reflect_reduction.proofs.Common.{take, table_numbers, HasNumbers}
use Rattle.prost_reflect_reduction.proofs.kinds.table_numbers.Given as goal

abbrev pub invariant-loop-value : goal.invariant-loop-value
invariant-loop-value l = HasNumbers l.set (table_numbers (take l.value-index l.values))
