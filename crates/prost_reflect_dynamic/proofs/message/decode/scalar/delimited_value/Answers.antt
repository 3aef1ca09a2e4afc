use Rattle.prost_reflect_dynamic.proofs.Common.{refl, ◌∙◌, inr}
use Rattle.prost_reflect_dynamic.specs.declared.value.Value as values
use Rattle.prost_reflect_dynamic.proofs.Views.{value_of_string}
use Rattle.prost_reflect_dynamic.proofs.ScalarReads.{text_element, no_text}
use Rattle.prost_reflect_dynamic.proofs.message.decode.scalar.delimited_value.Goals as goal

pub returns-in_ok-from_str-in-Ok-clause-ok : goal.returns-in_ok-from_str-in-Ok-clause-ok
returns-in_ok-from_str-in-Ok-clause-ok c = let e = c.in-Ok.ensures.cases in text_element _ (values.String c.in_ok-from_str-in-Ok.field-0) _ _ c.in-String.is e.1 (c.in_ok-from_str-in-Ok.ensures.ok ∙ e.0) (value_of_string _)

pub returns-in-Err-clause-err : goal.returns-in-Err-clause-err
returns-in-Err-clause-err c = let e = c.in-Err.ensures.cases in inr (refl, c.in-String.is, no_text _ e.0)
