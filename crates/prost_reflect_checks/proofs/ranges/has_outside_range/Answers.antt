use Rattle.prost_reflect_checks.proofs.Common.{rules, extension_outside, found_outside, flat_rows, all_rows, outside_same}
use Rattle.prost_reflect_checks.proofs.ranges.has_outside_range.Goals as goal

pub returns : goal.returns
returns c = let rows = all_rows c.args.resolved.now.index.base (flat_rows c.args.flat.now) in c.any_resolved_extension.ensures (found_outside rows) (extension_outside rows) (λ f b k. search rules) (outside_same rows)
