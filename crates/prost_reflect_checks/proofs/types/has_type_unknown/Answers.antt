use Rattle.prost_reflect_checks.proofs.Common.{rules, type_unknown, type_unfound, flat_rows, all_rows, type_is}
use Rattle.prost_reflect_checks.proofs.types.has_type_unknown.Goals as goal

pub returns-then-any_resolved_field : goal.returns-then-any_resolved_field
returns-then-any_resolved_field c = let rows = all_rows c.args.resolved.now.index.base (flat_rows c.args.flat.now) in let fields = c.any_resolved_field.ensures type_unfound (type_unknown rows) (λ f b k. search rules) (type_is rows) in search (rules, fields, c.if-any_resolved_field.true)

pub returns-else-any_resolved_field : goal.returns-else-any_resolved_field
returns-else-any_resolved_field c =
    let rows = all_rows c.args.resolved.now.index.base (flat_rows c.args.flat.now) in
    let fields = c.any_resolved_field.ensures type_unfound (type_unknown rows) (λ f b k. search rules) (type_is rows) in
    let extensions = c.any_resolved_extension.ensures type_unfound (type_unknown rows) (λ f b k. search rules) (type_is rows) in
    search (rules, fields, extensions, c.if-any_resolved_field.false)
