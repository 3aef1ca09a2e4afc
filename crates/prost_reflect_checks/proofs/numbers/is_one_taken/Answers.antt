use Rattle.prost_reflect_checks.proofs.Common.{rules, ◌∙◌, list_any, rows_any, numbered, same_numbered}
use Rattle.prost_reflect_base.specs.Below.{rows_below}
use Rattle.prost_reflect_tables.specs.Faults.{all_numbered}
use Rattle.prost_reflect_checks.proofs.numbers.is_one_taken.Goals as goal

pub returns : goal.returns
returns c =
    let there = all_numbered (rows_below c.args.base) in
    c.any.ensures (λ n. list_any (same_numbered (numbered n)) there) (λ n b k. search rules) ∙ rows_any (λ n. list_any (same_numbered n) there) numbered c.args.numbers.now
