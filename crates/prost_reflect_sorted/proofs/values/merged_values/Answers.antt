use Rattle.std.specs.Prelude.{◌≡◌}
use Rattle.prost_reflect_sorted.proofs.Common.{ℕ, rules, map, length, ap, ◌∙◌, flat_rows, all_rows, text_before}
use Rattle.prost_reflect_base.specs.Below.{rows_below, catalog_below}
use Rattle.prost_reflect_growth.proofs.Merging.{text_order}
use Rattle.prost_reflect_growth.specs.Merging.{merged, later_value, ordered_values}
use Rattle.prost_reflect_tables.specs.LinkedCatalog.{value_full_name}
use Rattle.prost_reflect_sorted.proofs.Merged.{values_ordered}
use Rattle.prost_reflect_sorted.proofs.values.merged_values.Goals as goal

pub returns : goal.returns
returns c =
    let old = rows_below c.args.base in
    let new = flat_rows c.args.flat.now in
    let text = value_full_name (all_rows c.args.base new) in
    let there : c.as_slice-2.result.now ≡ (catalog_below c.args.base).by_name.values = search rules in
    let later : c.as_slice-3.result.now ≡ map (later_value (length old.enums)) (ordered_values new) =
    c.as_slice-3.ensures.value
    ∙ (c.in_ok-later.ensures
    ∙ (ap (λ (n : ℕ). map (later_value n) c.as_slice.result.now) c.enum_count.ensures
    ∙ ap (map (later_value (length old.enums))) (c.as_slice.ensures.value ∙ c.in_ok-pairs.ensures))) in
    c.in_ok-from_vec.ensures
    ∙ (c.shrink_to_fit.ensures.items
    ∙ (c.in_ok-all.ensures (text_before text) (λ x y r k. search rules) (text_order text) (values_ordered c.args.base new c.as_slice-2.result.now there)
    ∙ (ap (λ ps. merged (text_before text) ps c.as_slice-3.result.now) there
    ∙ ap (merged (text_before text) (catalog_below c.args.base).by_name.values) later)))
