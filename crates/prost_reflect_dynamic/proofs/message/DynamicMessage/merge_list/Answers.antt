use Rattle.prost_reflect_dynamic.proofs.Common.{ap, map, sym, subst, ◌∙◌, IfOk-weaker, IfErr-weaker, ListValue, values_from, bytes_below, value_of, content_of, message_type_of, written_at, value_set, ListField, known_of}
use Rattle.prost_reflect_dynamic.specs.declared.value.Value as values
use Rattle.prost_reflect_dynamic.proofs.Views.{value_of_list}
use Rattle.prost_reflect_dynamic.proofs.ListMerging.{lent_list, elements_set, elements_fault}
use Rattle.prost_reflect_dynamic.proofs.TypedValues.{listed_scalars, list_step}
use Rattle.prost_reflect_dynamic.proofs.message.DynamicMessage.merge_list.Goals as goal

pub join_elements-requires-clause-list : goal.join_elements-requires-clause-list
join_elements-requires-clause-list c = lent_list c.args.self.now _ c.args.kind c.requires.field _ _ c.requires.sound (value_of_list c.new.result ∙ ap (λ l. ListValue (values_from (map value_of l))) c.new.ensures.items) (rw c.get.ensures.value at c.in_ok-value.ensures.value)

pub returns-clause-ok : goal.returns-clause-ok
returns-clause-ok c = IfOk-weaker c.join_elements.result _ _
    (λ rest j. elements_set c.args.self.now _ c.args.kind c.requires.field _ c.args.levels c.args.wire_type _ _ _ _ _ c.requires.sound (bytes_below _ c.type_inv.bytes)
    (value_of_list c.new.result ∙ ap (λ l. ListValue (values_from (map value_of l))) c.new.ensures.items) (rw c.get.ensures.value at c.in_ok-value.ensures.value) j (c.in_ok-value.ensures.content c.join_elements.new.value ∙ ap (λ k. value_set k (value_of c.join_elements.new.value) (content_of c.args.self.now)) c.get.ensures.value))
    c.join_elements.ensures.ok

pub returns-clause-fault : goal.returns-clause-fault
returns-clause-fault c = IfErr-weaker c.join_elements.result _ _ (λ e h ne. elements_fault c.args.self.now _ c.args.kind c.requires.field c.args.levels c.args.wire_type e _ (h ne)) c.join_elements.ensures.fault

pub returns-clause-typed : goal.returns-clause-typed
returns-clause-typed c = IfOk-weaker c.join_elements.result _ _
    (λ rest j. let step = elements_set c.args.self.now _ c.args.kind c.requires.field (written_at c.args.self.now c.get.result (values.List c.new.result) c.join_elements.new.value) c.args.levels c.args.wire_type _ _ _ _ _ c.requires.sound (bytes_below _ c.type_inv.bytes)
    (value_of_list c.new.result ∙ ap (λ l. ListValue (values_from (map value_of l))) c.new.ensures.items) (rw c.get.ensures.value at c.in_ok-value.ensures.value) j (c.in_ok-value.ensures.content c.join_elements.new.value ∙ ap (λ k. value_set k (value_of c.join_elements.new.value) (content_of c.args.self.now)) c.get.ensures.value) in
    list_step c.args.self.now c.get.result (values.List c.new.result) c.join_elements.new.value c.in_ok-value.ensures.ascending
    (listed_scalars _ _ c.args.kind (subst (λ n. ListField (known_of (message_type_of c.args.self.now)) n c.args.kind) (sym c.get.ensures.value) c.requires.field)) step.holds.sound)
    c.join_elements.ensures.ok
