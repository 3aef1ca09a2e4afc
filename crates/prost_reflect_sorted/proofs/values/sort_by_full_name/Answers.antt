use Rattle.std.specs.Prelude.{◌≡◌}
use Rattle.std.specs.Cmp.Lexicographic.{slice_cmp}
use Rattle.std.specs.Ordering.{is_lt, nat_cmp}
use Rattle.std.proofs.lemmas.Cmp.{nat_list_cmp_total}
use Rattle.prost_reflect_sorted.proofs.Common.{List, ℕ, map, rules, ap, always_returns_same, ranks_by, FlatEnumRow, enum_row, names_of, text_in, text_before}
use Rattle.prost_reflect_tables.proofs.Orders.{is_sorted_by}
use Rattle.prost_reflect_sorted.proofs.values.sort_by_full_name.Goals as goal

pub returns : goal.returns
returns c =
    let names : List (List (List ℕ)) = map (λ (e : FlatEnumRow). names_of e.values) (map enum_row c.args.enums.now) in
    let before = text_before (text_in names) in
    let order = ranks_by nat_list_cmp_total (text_in names) in
    is_sorted_by before order _ _
    (c.in_ok-sort_by.ensures.sorted before order (always_returns_same _ _ _ (λ a r g h. let is : r ≡ slice_cmp nat_cmp (text_in names a.0.now) (text_in names a.1.0.now) = search rules in (ap is_lt is, search rules))))
    (c.in_ok-sort_by.ensures.stable before order (always_returns_same _ _ _ (λ a r g h. let is : r ≡ slice_cmp nat_cmp (text_in names a.0.now) (text_in names a.1.0.now) = search rules in (ap is_lt is, search rules))))
