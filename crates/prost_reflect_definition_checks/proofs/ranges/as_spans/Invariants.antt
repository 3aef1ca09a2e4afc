use Rattle.std.specs.Prelude.{◌≡◌, ◌++◌}
use Rattle.prost_reflect_definition_checks.proofs.Common.{map, drop, span_of}
use Rattle.prost_reflect_definition_checks.proofs.ranges.as_spans.Given as goal

abbrev pub invariant-loop-range : goal.invariant-loop-range
invariant-loop-range l = l.spans.items ++ map span_of (drop l.range-index l.ranges) ≡ map span_of l.ranges
