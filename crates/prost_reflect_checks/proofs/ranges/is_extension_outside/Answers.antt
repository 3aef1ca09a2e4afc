use Rattle.std.specs.Prelude.{option_map}
use Rattle.prost_reflect_checks.proofs.Common.{ap, sym, ◌∙◌, flat_rows, all_rows}
use Rattle.prost_reflect_checks.proofs.ListedSpans.{spans_found}
use Rattle.prost_reflect_checks.proofs.ranges.is_extension_outside.Goals as goal

pub is_covered_at-requires : goal.is_covered_at-requires
is_covered_at-requires c =
    let rows = all_rows c.args.resolved.now.index.base (flat_rows c.args.flat.now) in
    spans_found rows c.args.spans.now c.in-Some.place c.in-Some-ranges_at.ranges.now c.requires (sym c.ranges_at.ensures ∙ ap (option_map (λ r. r.now)) c.in-Some-ranges_at.is)
