use Rattle.prost_reflect_checks.proofs.Common.{rules, ◌∙◌, list_any, rows_any}
use Rattle.std.specs.Str.{bytes_eq}
use Rattle.prost_reflect_base.specs.Below.{rows_below}
use Rattle.prost_reflect_tables.specs.Faults.{full_names}
use Rattle.prost_reflect_checks.proofs.names.is_one_taken.Goals as goal

pub returns : goal.returns
returns c =
    let there = full_names (rows_below c.args.base) in
    c.any.ensures (λ t. list_any (bytes_eq t.now) there) (λ t b k. search rules) ∙ rows_any (λ n. list_any (bytes_eq n) there) (λ t. t.now) c.args.names.now
