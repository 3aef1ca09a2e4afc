use Rattle.prost_reflect_definition_checks.proofs.Common.{length, ap}
use Rattle.prost_reflect_definition_checks.proofs.Repeats.{alike, fewer}
use Rattle.std.specs.Cmp.Lexicographic.{nat_list_eq_equiv, on_texts, texts_ties}
use Rattle.std.specs.Str.{bytes_eq}
use Rattle.std.proofs.lemmas.List.Filters.{dedup_is}
use Rattle.prost_reflect_definition_checks.proofs.names.repeats.Goals as goal

pub returns : goal.returns
returns c =
    let sorted = c.sort_unstable.new.self.items in
    let left = c.dedup.new.self.items in
    fewer bytes_eq nat_list_eq_equiv (λ t. t.now) _ (on_texts (λ t. t.now)) (λ x y. texts_ties x.now y.now) c.args.names.now.items sorted left
    c.sort_unstable.ensures.permutation c.sort_unstable.ensures.sorted (dedup_is (alike bytes_eq nat_list_eq_equiv (λ t. t.now)) sorted left c.dedup.ensures.filtered)
    _ _ (ap length c.as_slice.ensures.value) (ap length c.as_slice-count.ensures.value)
