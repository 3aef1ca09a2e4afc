use Rattle.std.specs.Prelude.{◌≡◌, ◌+◌, ◌++◌}
use Rattle.prost_reflect_sorted.proofs.Common.{ℕ, rules, map, length, ap, ◌∙◌, text_list, text_at, text_before}
use Rattle.prost_reflect_growth.proofs.Merging.{text_order}
use Rattle.prost_reflect_growth.specs.Merging.{merged}
use Rattle.prost_reflect_tables.specs.LinkedCatalog.{ordered}
use Rattle.prost_reflect_sorted.specs.Sorts.{names_below, order_below}
use Rattle.prost_reflect_sorted.proofs.Merged.{stays_ordered}
use Rattle.prost_reflect_sorted.proofs.merging.merged_by_name.Goals as goal

pub returns : goal.returns
returns c =
    let names = names_below c.args.base c.args.sort in
    let added = text_list c.args.added.now in
    let text = text_at (names ++ added) in
    let later : c.as_slice-3.result.now ≡ map (λ (i : ℕ). length names + i) (ordered added) =
    c.as_slice-3.ensures.value
    ∙ (c.in_ok-later.ensures
    ∙ (ap (λ (n : ℕ). map (λ (i : ℕ). n + i) c.as_slice.result.now) c.count_below.ensures
    ∙ ap (map (λ (i : ℕ). length names + i)) (c.as_slice.ensures.value ∙ c.in_ok-places.ensures))) in
    c.in_ok-from_vec.ensures
    ∙ (c.shrink_to_fit.ensures.items
    ∙ (c.in_ok-all.ensures (text_before text) (λ x y r k. search rules) (text_order text) (stays_ordered c.args.base c.args.sort added c.as_slice-2.result.now (c.as_slice-2.ensures ∙ c.order_below-old.ensures))
    ∙ (ap (λ ps. merged (text_before text) ps c.as_slice-3.result.now) (c.as_slice-2.ensures ∙ c.order_below-old.ensures)
    ∙ ap (merged (text_before text) (order_below c.args.base c.args.sort)) later)))
