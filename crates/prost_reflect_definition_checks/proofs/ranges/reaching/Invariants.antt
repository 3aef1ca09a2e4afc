use Rattle.std.specs.Prelude.{◌≡◌, ◌++◌}
use Rattle.prost_reflect_definition_checks.proofs.Common.{drop, reaching}
use Rattle.prost_reflect_definition_checks.proofs.ranges.reaching.Given as goal

abbrev pub invariant-loop-span : goal.invariant-loop-span
invariant-loop-span l = l.farther.items ++ reaching l.farthest (drop l.span-index l.spans) ≡ reaching 0 l.spans
