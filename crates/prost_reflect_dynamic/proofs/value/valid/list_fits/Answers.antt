use Rattle.prost_reflect_dynamic.proofs.Common.{◌∙◌, ap, false, list_all, option_copied, element_valid, schema_kind, enums_in, value_of}
use Rattle.prost_reflect_dynamic.proofs.Views.{value_of_list}
use Rattle.prost_reflect_dynamic.proofs.Valid.{elements_are}
use Rattle.prost_reflect_dynamic.proofs.value.valid.list_fits.Goals as goal

pub returns-in-List : goal.returns-in-List
returns-in-List c =
    let enums = enums_in (option_copied c.args.pool) in
    rw (c.in-List.is, value_of_list) (c.elements_valid.ensures ∙ ap (list_all (λ v. element_valid (schema_kind enums c.args.kind false) (value_of v))) c.as_slice.ensures.value ∙ elements_are (schema_kind enums c.args.kind false) c.in-List.values.items)
