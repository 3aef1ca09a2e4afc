use Rattle.prost_reflect_checks.proofs.Common.{rules, extendee_unknown, extendee_unfound, flat_rows, all_rows, extendee_is}
use Rattle.prost_reflect_checks.proofs.types.has_extendee_unknown.Goals as goal

pub returns : goal.returns
returns c = let rows = all_rows c.args.resolved.now.index.base (flat_rows c.args.flat.now) in c.any_resolved_extension.ensures extendee_unfound (extendee_unknown rows) (λ f b k. search rules) (extendee_is rows)
