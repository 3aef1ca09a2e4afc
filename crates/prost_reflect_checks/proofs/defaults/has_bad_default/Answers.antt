use Rattle.prost_reflect_checks.proofs.Common.{rules, bad_read, flat_rows, all_rows, links_of, bad_is}
use Rattle.prost_reflect_tables.specs.DefaultFaults.{default_bad}
use Rattle.prost_reflect_checks.proofs.defaults.has_bad_default.Goals as goal

pub returns-then-any_resolved_field : goal.returns-then-any_resolved_field
returns-then-any_resolved_field c = let rows = all_rows c.args.resolved.now.index.base (flat_rows c.args.flat.now) in let fields = c.any_resolved_field.ensures bad_read (default_bad (links_of rows)) (λ f b k. search rules) (bad_is rows) in search (rules, fields, c.if-any_resolved_field.true)

pub returns-else-any_resolved_field : goal.returns-else-any_resolved_field
returns-else-any_resolved_field c =
    let rows = all_rows c.args.resolved.now.index.base (flat_rows c.args.flat.now) in
    let fields = c.any_resolved_field.ensures bad_read (default_bad (links_of rows)) (λ f b k. search rules) (bad_is rows) in
    let extensions = c.any_resolved_extension.ensures bad_read (default_bad (links_of rows)) (λ f b k. search rules) (bad_is rows) in
    search (rules, fields, extensions, c.if-any_resolved_field.false)
