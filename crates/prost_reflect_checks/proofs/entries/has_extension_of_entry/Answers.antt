use Rattle.prost_reflect_checks.proofs.Common.{rules, is_of_entry, found_of_entry, flat_rows, all_rows, of_entry_is}
use Rattle.prost_reflect_checks.proofs.entries.has_extension_of_entry.Goals as goal

pub returns : goal.returns
returns c = let rows = all_rows c.args.resolved.now.index.base (flat_rows c.args.flat.now) in c.any_resolved_extension.ensures (found_of_entry rows) (is_of_entry rows) (λ f b k. search rules) (of_entry_is rows)
