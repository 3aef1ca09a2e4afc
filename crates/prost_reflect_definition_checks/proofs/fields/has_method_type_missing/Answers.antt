use Rattle.prost_reflect_definition_checks.proofs.Common.{rules, method_type_missing}
use Rattle.prost_reflect_definition_checks.proofs.fields.has_method_type_missing.Goals as goal

pub returns : goal.returns
returns c = let methods = c.any_method.ensures method_type_missing (λ m b k. search rules) in search (rules, methods, c.as_slice.ensures.value)
