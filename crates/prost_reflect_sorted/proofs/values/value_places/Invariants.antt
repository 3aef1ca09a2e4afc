use Rattle.std.specs.Prelude.{◌≡◌, ◌++◌}
use Rattle.prost_reflect_sorted.proofs.Common.{map, drop, enum_row, FlatEnumRow, pairs_from, all_pairs}
use Rattle.prost_reflect_sorted.proofs.values.value_places.Given as goal

abbrev pub invariant-loop-list : goal.invariant-loop-list
invariant-loop-list l = l.pairs.items ++ pairs_from l.list (map (λ (e : FlatEnumRow). e.values) (map enum_row (drop l.list l.enums))) ≡ all_pairs (map (λ (e : FlatEnumRow). e.values) (map enum_row l.enums))
