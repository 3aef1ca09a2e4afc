-- Further rows are put in order among those that are.
use Rattle.std.specs.Prelude.{◌≡◌, ◌++◌}
use Rattle.prost_reflect_growth.proofs.Common.{ℕ, List, sym, ap, ◌∙◌, nat_eq, filter-append, in_order, FieldRow}
use Rattle.prost_reflect_tables.proofs.Linkwell.Numbers.{number_of}
use Rattle.prost_reflect_tables.proofs.Sorting.{with_number, order_rises, order_there, is_in_order}
use Rattle.prost_reflect_growth.specs.Growth.{OrderGrows}

-- Those of one number in two lists.
both_there : (k : ℕ) (xs ys : List FieldRow) → with_number number_of k (xs ++ ys) ≡ with_number number_of k xs ++ with_number number_of k ys
both_there k xs ys = filter-append (λ (f : FieldRow). nat_eq f.number k) xs ys

pub order_behind : (old new : List FieldRow) → in_order (old ++ in_order new) ≡ in_order (old ++ new)
order_behind old new = is_in_order (old ++ new) (in_order (old ++ in_order new)) (order_rises (old ++ in_order new)) (λ k.
    order_there k (old ++ in_order new)
    ∙ (both_there k old (in_order new)
    ∙ (ap (λ l. with_number number_of k old ++ l) (order_there k new)
    ∙ sym (both_there k old new))))

pub order_grows : OrderGrows
order_grows old new = sym (is_in_order (old ++ new) (in_order (in_order old ++ new)) (order_rises (in_order old ++ new)) (λ k.
    order_there k (in_order old ++ new)
    ∙ (both_there k (in_order old) new
    ∙ (ap (λ l. l ++ with_number number_of k new) (order_there k old)
    ∙ sym (both_there k old new)))))
