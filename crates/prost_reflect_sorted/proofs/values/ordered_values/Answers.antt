use Rattle.prost_reflect_sorted.proofs.Common.{List, map, ap, ◌∙◌, FlatEnumRow, enum_row, names_of, all_pairs, sorted_by, text_in, text_before}
use Rattle.prost_reflect_flat.specs.declared.definitions.FlatEnum.{FlatEnum}
use Rattle.prost_reflect_sorted.proofs.values.ordered_values.Goals as goal

pub returns : goal.returns
returns c =
    let enums = c.as_slice-enums.result.now in
    c.in_ok-sort_by_full_name.ensures
    ∙ (ap (sorted_by (text_before (text_in (map (λ (e : FlatEnumRow). names_of e.values) (map enum_row enums))))) c.in_ok-pairs.ensures
    ∙ ap (λ (es : List FlatEnum). sorted_by (text_before (text_in (map (λ (e : FlatEnumRow). names_of e.values) (map enum_row es)))) (all_pairs (map (λ (e : FlatEnumRow). e.values) (map enum_row es)))) c.as_slice-enums.ensures.value)
