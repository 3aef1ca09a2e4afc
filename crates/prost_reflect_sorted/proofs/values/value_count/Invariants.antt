use Rattle.std.specs.Prelude.{◌≡◌, ◌-◌, ◌^◌, length, min}
use Rattle.std.specs.List.{sum_by}
use Rattle.prost_reflect_sorted.proofs.Common.{map, enum_row, FlatEnumRow}
use Rattle.std.proofs.Common.{take}
use Rattle.prost_reflect_sorted.proofs.values.value_count.Given as goal

abbrev pub invariant-loop-declared : goal.invariant-loop-declared
invariant-loop-declared l = l.count ≡ min (sum_by (λ (e : FlatEnumRow). length e.values) (map enum_row (take l.declared-index l.enums))) (2 ^ 64 - 1)
