use Rattle.prost_reflect_growth.proofs.Common.{rules}
use Rattle.std.proofs.lemmas.List.Sorted.{IsNonDecreasingBy-from_sort_by_key, answers_always}
use Rattle.prost_reflect_tables.proofs.Sorting.{sorted_rows}
use Rattle.prost_reflect_growth.proofs.rows.sort_by_number.Goals as goal

pub returns-clause-sorted : goal.returns-clause-sorted
returns-clause-sorted c =
    sorted_rows _ _ (IsNonDecreasingBy-from_sort_by_key (λ f. f.number) _ c.in_ok-sort_by_key.ensures.sorted (λ a r q k. search rules))
    (c.in_ok-sort_by_key.ensures.stable (λ f. f.number) (answers_always _ _ _ (λ f a r g h. search rules)))

pub returns-clause-rising : goal.returns-clause-rising
returns-clause-rising c = IsNonDecreasingBy-from_sort_by_key (λ f. f.number) _ c.in_ok-sort_by_key.ensures.sorted (λ a r q k. search rules)
