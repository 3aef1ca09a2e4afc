use Rattle.std.specs.Prelude.{◌≡◌, ◌++◌}
use Rattle.prost_reflect_sorted.proofs.Common.{map, drop}
use Rattle.prost_reflect_growth.specs.Merging.{later_value}
use Rattle.prost_reflect_sorted.proofs.values.later_values.Given as goal

abbrev pub invariant-loop-pair : goal.invariant-loop-pair
invariant-loop-pair l = l.later.items ++ map (later_value l.count) (drop l.pair-index l.pairs) ≡ map (later_value l.count) l.pairs
