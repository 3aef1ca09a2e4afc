use Rattle.std.specs.Prelude.{◌≡◌, ◌++◌}
use Rattle.prost_reflect_maps.proofs.Common.{length, flat, items_left_back}
use Rattle.prost_reflect_maps.proofs.sorted_map.walks.ItemsBack.fill.Given as goal

-- nothing is lost, and nothing given twice
abbrev pub invariant-loop-run : goal.invariant-loop-run
invariant-loop-run g l = flat l.runs ++ l.run ≡ items_left_back l.self

abbrev pub decreases-loop-run : goal.decreases-loop-run
decreases-loop-run g l = length l.runs
