use Rattle.std.specs.Prelude.{◌≡◌}
use Rattle.prost_reflect_reduction.proofs.Common.{drop, list_all, is_known, shown_fields}
use Rattle.prost_reflect_reduction.proofs.types.are_known.Given as goal

abbrev pub invariant-loop-other : goal.invariant-loop-other
invariant-loop-other l = list_all (λ g. is_known (shown_fields l.older l.fields) g.number) (shown_fields l.newer (drop l.other-index l.others)) ≡ list_all (λ g. is_known (shown_fields l.older l.fields) g.number) (shown_fields l.newer l.others)
