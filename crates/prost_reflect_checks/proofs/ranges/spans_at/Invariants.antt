use Rattle.prost_reflect_checks.proofs.Common.{flat_rows, all_rows, AreSpansIn}
use Rattle.prost_reflect_checks.proofs.ranges.spans_at.Given as goal

abbrev pub invariant-loop-place : goal.invariant-loop-place
invariant-loop-place l = AreSpansIn (all_rows l.resolved.index.base (flat_rows l.flat)) l.spans.items
