use Rattle.prost_reflect_definition_checks.proofs.Common.{rules, import_outside, has_oneof_outside}
use Rattle.prost_reflect_definition_checks.proofs.indices.has_bad_index.Goals as goal

pub returns-then-any_file : goal.returns-then-any_file
returns-then-any_file c = let files = c.any_file.ensures import_outside (λ f b k. search rules) in search (rules, files, c.if-any_file.true)

pub returns-else-any_file : goal.returns-else-any_file
returns-else-any_file c =
    let files = c.any_file.ensures import_outside (λ f b k. search rules) in
    let messages = c.any_message.ensures has_oneof_outside (λ m b k. search rules) in
    search (rules, files, messages, c.if-any_file.false)
