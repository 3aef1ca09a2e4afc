use Rattle.prost_reflect_lists.proofs.Common.{List, ℕ, map, ap, ◌∙◌, by_text, text_list, field_row, own_fields}
use Rattle.prost_reflect_lists.proofs.lists.fields_by_json_name.Goals as goal

pub returns : goal.returns
returns c =
    c.in_ok-fields_by.ensures
    ∙ ap (λ (names : List (List ℕ)). by_text names (own_fields (map field_row c.args.fields.now))) (ap text_list c.as_slice.ensures.value ∙ c.in_ok-names.ensures)
