use Rattle.std.specs.Prelude.{◌≡◌}
use Rattle.prost_reflect_reduction.proofs.Common.{drop, list_all, int_cmp, contains, table_numbers}
use Rattle.prost_reflect_reduction.proofs.kinds.are_among.Given as goal

abbrev pub invariant-loop-value : goal.invariant-loop-value
invariant-loop-value l = list_all (contains int_cmp l.set) (table_numbers (drop l.value-index l.values)) ≡ list_all (contains int_cmp l.set) (table_numbers l.values)
