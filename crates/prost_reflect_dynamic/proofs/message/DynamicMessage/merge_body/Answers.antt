use Rattle.prost_reflect_dynamic.proofs.Common.{◌∙◌, ap, map, refl, subst, sym, ListValue, values_from, pool_rows, value_set, NumberList, JoinsNumbers, value_of, content_of, message_type_of, written_at}
use Rattle.prost_reflect_dynamic.specs.declared.value.Value as values
use Rattle.prost_reflect_dynamic.proofs.NumberMerging.{lent_numbers, body_put, put_sound, all_strays}
use Rattle.prost_reflect_dynamic.proofs.TypedSteps.{still_typed}
use Rattle.prost_reflect_dynamic.proofs.TypedValues.{listed_numbers, list_step}
use Rattle.prost_reflect_dynamic.proofs.Views.{value_of_list}
use Rattle.prost_reflect_dynamic.proofs.message.DynamicMessage.merge_body.Goals as goal

pub join_numbers-requires : goal.join_numbers-requires
join_numbers-requires c = lent_numbers c.args.self.now c.args.number.value c.args.kind c.requires.field _ _ c.requires.sound (value_of_list c.new.result ∙ ap (λ l. ListValue (values_from (map value_of l))) c.new.ensures.items) (rw c.get.ensures.value at c.in_ok-value.ensures.value)

pub add_strays-requires-clause-strays : goal.add_strays-requires-clause-strays
add_strays-requires-clause-strays c =
    let v = value_of c.join_numbers.new.value in
    let joined = subst (λ rows. JoinsNumbers rows.enums c.args.kind (value_of c.in_ok-value.value.now) v c.in_ok-strays.strays.items c.args.body.now) (c.in_ok-message_type.ensures.cases.1 ∙ ap (λ d. pool_rows d.pool) c.message_type.ensures) c.in_ok-strays.ensures.ok in
    all_strays c.args.self.now c.args.number.value c.args.kind c.requires.field _ v _ c.in_ok-strays.strays.items c.args.body.now (value_set c.args.number.value v (content_of c.args.self.now)) c.requires.sound
    (value_of_list c.new.result ∙ ap (λ l. ListValue (values_from (map value_of l))) c.new.ensures.items) (rw c.get.ensures.value at c.in_ok-value.ensures.value) joined refl

pub returns-clause-ok : goal.returns-clause-ok
returns-clause-ok c =
    let v = value_of c.join_numbers.new.value in
    let joined = subst (λ rows. JoinsNumbers rows.enums c.args.kind (value_of c.in_ok-value.value.now) v c.in_ok-strays.strays.items c.args.body.now) (c.in_ok-message_type.ensures.cases.1 ∙ ap (λ d. pool_rows d.pool) c.message_type.ensures) c.in_ok-strays.ensures.ok in
    body_put c.args.self.now c.args.number.value c.args.kind c.requires.field _ v _ c.in_ok-strays.strays.items c.args.body.now (content_of (written_at c.args.self.now c.get.result (values.List c.new.result) c.join_numbers.new.value)) c.requires.sound
    (value_of_list c.new.result ∙ ap (λ l. ListValue (values_from (map value_of l))) c.new.ensures.items) (rw c.get.ensures.value at c.in_ok-value.ensures.value) joined
    (c.in_ok-value.ensures.content c.join_numbers.new.value ∙ ap (λ n. value_set n v (content_of c.args.self.now)) c.get.ensures.value) (content_of c.add_strays.new.self) c.in_ok-add_strays.ensures.content

pub returns-clause-typed : goal.returns-clause-typed
returns-clause-typed c =
    let v = value_of c.join_numbers.new.value in
    let joined = subst (λ rows. JoinsNumbers rows.enums c.args.kind (value_of c.in_ok-value.value.now) v c.in_ok-strays.strays.items c.args.body.now) (c.in_ok-message_type.ensures.cases.1 ∙ ap (λ d. pool_rows d.pool) c.message_type.ensures) c.in_ok-strays.ensures.ok in
    let mid = written_at c.args.self.now c.get.result (values.List c.new.result) c.join_numbers.new.value in
    let sound = put_sound c.args.self.now c.args.number.value c.args.kind c.requires.field _ v _ c.in_ok-strays.strays.items c.args.body.now (content_of mid) c.requires.sound
    (value_of_list c.new.result ∙ ap (λ l. ListValue (values_from (map value_of l))) c.new.ensures.items) (rw c.get.ensures.value at c.in_ok-value.ensures.value) joined
    (c.in_ok-value.ensures.content c.join_numbers.new.value ∙ ap (λ n. value_set n v (content_of c.args.self.now)) c.get.ensures.value) in
    still_typed c.args.self.now mid c.add_strays.new.self
    (list_step c.args.self.now c.get.result (values.List c.new.result) c.join_numbers.new.value c.in_ok-value.ensures.ascending
    (listed_numbers (message_type_of c.args.self.now) c.get.result c.args.kind (subst (λ n. NumberList (message_type_of c.args.self.now) n c.args.kind) (sym c.get.ensures.value) c.requires.field)) sound) c.in_ok-add_strays.ensures.typed
