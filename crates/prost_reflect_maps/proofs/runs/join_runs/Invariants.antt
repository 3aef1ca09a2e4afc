use Rattle.std.specs.Prelude.{◌≡◌, ◌++◌, ◌+◌, ◌≤◌}
use Rattle.prost_reflect_maps.proofs.Common.{length, vec_len, vec_capacity, into_iter_items, flat}
use Rattle.prost_reflect_maps.proofs.runs.join_runs.Given as goal

-- what is joined, with the runs that are left, is the whole; and there is room for them
abbrev pub invariant-loop-run : goal.invariant-loop-run
invariant-loop-run g l = record {
  items : l.items.items ++ flat (into_iter_items l.run-iterator) ≡ l.initial.items.items ++ flat l.fn.runs.items;
  room : vec_len l.items + length (flat (into_iter_items l.run-iterator)) ≤ vec_capacity l.items;
}
