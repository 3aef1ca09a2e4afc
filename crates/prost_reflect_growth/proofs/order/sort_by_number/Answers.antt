use Rattle.std.specs.Prelude.{◌≡◌}
use Rattle.prost_reflect_growth.proofs.Common.{rules, ap, ranks_by}
use Rattle.std.proofs.lemmas.Fn.{always_returns_same}
use Rattle.prost_reflect_tables.specs.Orders.{number_at, number_before}
use Rattle.std.specs.Ordering.{is_lt, int_cmp}
use Rattle.std.proofs.lemmas.Cmp.{int_cmp_total}
use Rattle.prost_reflect_tables.proofs.Orders.{is_sorted_by}
use Rattle.prost_reflect_growth.proofs.order.sort_by_number.Goals as goal

pub returns : goal.returns
returns c =
    let before = number_before c.args.numbers.now in
    let order = ranks_by int_cmp_total (number_at c.args.numbers.now) in
    is_sorted_by before order _ _
    (c.in_ok-sort_by.ensures.sorted before order (always_returns_same _ _ _ (λ a r g h. let is : r ≡ int_cmp (number_at c.args.numbers.now a.0.now) (number_at c.args.numbers.now a.1.0.now) = search rules in (ap is_lt is, search rules))))
    (c.in_ok-sort_by.ensures.stable before order (always_returns_same _ _ _ (λ a r g h. let is : r ≡ int_cmp (number_at c.args.numbers.now a.0.now) (number_at c.args.numbers.now a.1.0.now) = search rules in (ap is_lt is, search rules))))
