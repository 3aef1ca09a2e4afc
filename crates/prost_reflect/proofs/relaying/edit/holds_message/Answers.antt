use Rattle.std.proofs.Common.{ap, sym, ◌∙◌}
use Rattle.std.specs.List.{list_any}
use Rattle.prost_reflect.specs.Edits.{is_message}
use Rattle.prost_reflect_dynamic.specs.View.{value_of}
use Rattle.prost_reflect.proofs.PlainValues.{list_holds, list_ordered, map_holds, map_ordered}
use Rattle.prost_reflect_dynamic.proofs.Views.{value_of_list, value_of_map}
use Rattle.prost_reflect.proofs.relaying.edit.holds_message.Goals as goal

pub returns-in-List-clause-holds : goal.returns-in-List-clause-holds
returns-in-List-clause-holds c = λ f valid.
    c.any_message.ensures ∙ ap (list_any (λ v. is_message (value_of v))) c.as_slice.ensures.value
    ∙ list_holds f (value_of c.args.value.now) c.in-List.values.items (ap value_of c.in-List.is ∙ value_of_list c.in-List.values) valid

pub returns-in-List-clause-ordered : goal.returns-in-List-clause-ordered
returns-in-List-clause-ordered c = λ f valid none.
    list_ordered f (value_of c.args.value.now) c.in-List.values.items (ap value_of c.in-List.is ∙ value_of_list c.in-List.values) valid
    (sym (c.any_message.ensures ∙ ap (list_any (λ v. is_message (value_of v))) c.as_slice.ensures.value) ∙ none)

pub returns-in-Map-clause-holds : goal.returns-in-Map-clause-holds
returns-in-Map-clause-holds c = λ f valid.
    c.any_message_in.ensures.holds ∙ map_holds f (value_of c.args.value.now) c.in-Map.pairs.entries (ap value_of c.in-Map.is ∙ value_of_map c.in-Map.pairs) valid

pub returns-in-Map-clause-ordered : goal.returns-in-Map-clause-ordered
returns-in-Map-clause-ordered c = λ f valid none.
    map_ordered f (value_of c.args.value.now) c.in-Map.pairs.entries (ap value_of c.in-Map.is ∙ value_of_map c.in-Map.pairs) valid (sym c.any_message_in.ensures.holds ∙ none) c.any_message_in.ensures.ordered
