use Rattle.prost_reflect_linking.proofs.Common.{List, ℕ, map, ap, ◌∙◌, arith, field_row, definition_row, oneof_place, member_place, with_item, more_grouped, all_grouped}
use Rattle.prost_reflect_linking.proofs.link.members_by_oneof.Goals as goal

pub loop-definition-preserved : goal.loop-definition-preserved
loop-definition-preserved c =
    let d = c.definition-item.result in
    let old : List (List ℕ) = map (λ xs. xs.items) c.loop-definition.lists.items in
    more_grouped definition_row oneof_place (member_place (map field_row c.args.fields.now)) c.args.declared.now c.loop-definition.definition-index d old _ c.loop-definition-test.true c.definition-item.is
    (c.in_ok-add_item.ensures ∙ (ap (λ p. with_item p c.member_place.result 0 old) c.place_in-place.ensures ∙ ap (λ i. with_item (oneof_place (definition_row d)) i 0 old) c.member_place.ensures))
    ∙ c.loop-definition.invariant

pub returns : goal.returns
returns c = all_grouped definition_row _ _ c.args.declared.now c.loop-definition.definition-index _ (omega (arith, c.loop-definition-test.false)) ∙ c.loop-definition.invariant
