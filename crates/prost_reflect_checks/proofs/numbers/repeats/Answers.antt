use Rattle.prost_reflect_checks.proofs.Common.{ℕ, ℤ, length, refl, ap, same_numbered, numbered}
use Rattle.prost_reflect_definition_checks.proofs.Repeats.{alike, fewer}
use Rattle.std.specs.Cmp.{IsEquivalence, both_tied, unsigned_ties}
use Rattle.std.proofs.lemmas.Cmp.{and_equiv, int_cmp_total, int_eq_equiv, nat_cmp_total, nat_eq_equiv, on_equiv, on_total, then_total}
use Rattle.std.proofs.lemmas.List.Filters.{dedup_is}
use Rattle.prost_reflect_tables.specs.Faults.{Numbered}
use Rattle.prost_reflect_checks.proofs.numbers.repeats.Goals as goal

equal : IsEquivalence same_numbered
equal = and_equiv (on_equiv (λ (n : Numbered). n.message) nat_eq_equiv) (on_equiv (λ (n : Numbered). n.number) int_eq_equiv)

pub returns : goal.returns
returns c =
    let sorted = c.sort_unstable.new.self.items in
    let left = c.dedup.new.self.items in
    fewer same_numbered equal numbered _ (then_total (on_total (λ (p : ℕ × ℤ). p.0) nat_cmp_total) (on_total (λ (p : ℕ × ℤ). p.1) int_cmp_total))
    (λ x y. both_tied _ _ _ _ (unsigned_ties x.0 y.0) refl) c.args.numbers.now.items sorted left
    c.sort_unstable.ensures.permutation c.sort_unstable.ensures.sorted (dedup_is (alike same_numbered equal numbered) sorted left c.dedup.ensures.filtered)
    _ _ (ap length c.as_slice.ensures.value) (ap length c.as_slice-count.ensures.value)
