use Rattle.prost_reflect_checks.proofs.Common.{rules, method_of_entry, flat_rows, all_rows}
use Rattle.prost_reflect_checks.proofs.entries.has_method_of_entry.Goals as goal

pub returns : goal.returns
returns c = let methods = c.any_method.ensures (method_of_entry (all_rows c.args.resolved.now.index.base (flat_rows c.args.flat.now))) (λ m b k. search rules) in search (rules, methods, c.as_slice.ensures.value)
