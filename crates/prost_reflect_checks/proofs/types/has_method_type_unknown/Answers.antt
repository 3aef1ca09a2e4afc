use Rattle.prost_reflect_checks.proofs.Common.{rules, method_type_unknown, flat_rows, all_rows}
use Rattle.prost_reflect_checks.proofs.types.has_method_type_unknown.Goals as goal

pub returns : goal.returns
returns c = let methods = c.any_method.ensures (method_type_unknown (all_rows c.args.index.now.base (flat_rows c.args.flat.now))) (λ m b k. search rules) in search (rules, methods, c.as_slice.ensures.value)
