use Rattle.prost_reflect_definition_checks.proofs.Common.{ℕ, rules, subst, List, IsPermutation, spans_in_order}
use Rattle.std.proofs.lemmas.List.Sorted.{IsNonDecreasingBy-from_sort_by_key}
use Rattle.prost_reflect_definition_checks.proofs.ranges.spans_of.Goals as goal

pub returns : goal.returns
returns c =
    let sorted = c.sort_by_key.new.self.items in
    let up = IsNonDecreasingBy-from_sort_by_key (λ (s : ℕ × ℕ). s.0) sorted c.in_ok-sort_by_key.ensures.sorted (λ a r q k. search rules) in
    let moved = subst (λ (l : List (ℕ × ℕ)). IsPermutation l sorted) c.in_ok-spans.ensures c.sort_by_key.ensures.permutation in
    let made = spans_in_order c.args.ranges.now sorted moved up in
    search (rules, made)
