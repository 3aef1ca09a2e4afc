use Rattle.std.specs.Prelude.{◌≡◌}
use Rattle.prost_reflect_growth.proofs.Common.{rules, ap, ranks_by, text_at, text_before}
use Rattle.std.proofs.lemmas.Fn.{always_returns_same}
use Rattle.prost_reflect_flat.specs.FlatViews.{text_list}
use Rattle.std.specs.Ordering.{is_lt, nat_cmp}
use Rattle.std.specs.Cmp.Lexicographic.{slice_cmp}
use Rattle.std.proofs.lemmas.Cmp.{nat_list_cmp_total}
use Rattle.prost_reflect_tables.proofs.Orders.{is_sorted_by}
use Rattle.prost_reflect_growth.proofs.order.sort_by_text.Goals as goal

pub returns : goal.returns
returns c =
    let before = text_before (text_at (text_list c.args.texts.now)) in
    let order = ranks_by nat_list_cmp_total (text_at (text_list c.args.texts.now)) in
    is_sorted_by before order _ _
    (c.in_ok-sort_by.ensures.sorted before order (always_returns_same _ _ _ (λ a r g h. let is : r ≡ slice_cmp nat_cmp (text_at (text_list c.args.texts.now) a.0.now) (text_at (text_list c.args.texts.now) a.1.0.now) = search rules in (ap is_lt is, search rules))))
    (c.in_ok-sort_by.ensures.stable before order (always_returns_same _ _ _ (λ a r g h. let is : r ≡ slice_cmp nat_cmp (text_at (text_list c.args.texts.now) a.0.now) (text_at (text_list c.args.texts.now) a.1.0.now) = search rules in (ap is_lt is, search rules))))
