use Rattle.std.specs.Prelude.{◌≡◌, ◌+◌}
use Rattle.prost_reflect_maps.proofs.Common.{length, drop, flat}
use Rattle.prost_reflect_maps.proofs.runs.count_items.Given as goal

-- what is counted, with those of the runs that are left, are all
abbrev pub invariant-loop-run : goal.invariant-loop-run
invariant-loop-run g l = l.count + length (flat (drop l.run-index l.runs)) ≡ length (flat l.runs)
