use Rattle.prost_reflect_checks.proofs.Common.{rules, wrongly_of_entry, wrongly_found, flat_rows, all_rows, wrongly_is}
use Rattle.prost_reflect_checks.proofs.entries.has_wrongly_of_entry.Goals as goal

pub returns : goal.returns
returns c = let rows = all_rows c.args.resolved.now.index.base (flat_rows c.args.flat.now) in c.any_resolved_field.ensures (wrongly_found rows) (wrongly_of_entry rows) (λ f b k. search rules) (wrongly_is rows)
