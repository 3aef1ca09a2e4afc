use Rattle.std.specs.Prelude.{◌≡◌, ◌+◌, ◌++◌}
use Rattle.prost_reflect_linking.proofs.Common.{List, ap, ◌∙◌, map, drop, length, arith, oneof_row, field_row, definition_row, oneof_place, member_place, belonging, oneofs_from, linked_oneof, groups_length, group_of, oneof_more, same_oneof}
use Rattle.prost_reflect_tables.specs.declared.tables.OneofTable.{OneofTable}
use Rattle.prost_reflect_linking.proofs.link.linked_oneofs.Goals as goal

pub index-requires : goal.index-requires
index-requires c = let size = groups_length oneof_place (member_place (map field_row c.args.fields.now)) (map definition_row c.args.declared.now) (length c.args.oneofs.now) c.in_ok-members.members.items c.in_ok-members.ensures in omega (arith, size, c.loop-place-test.true, c.in_ok-members.members.ok.0)

pub loop-place-preserved : goal.loop-place-preserved
loop-place-preserved c =
    let fields = map field_row c.args.fields.now in
    let declared = map definition_row c.args.declared.now in
    let place = c.loop-place.place in
    let d = c.index-oneofs-place.result in
    let members : c.as_slice-places.result.now ≡ map (member_place fields) (belonging oneof_place declared place) =
    c.as_slice-places.ensures.value ∙ group_of oneof_place (member_place fields) declared (length c.args.oneofs.now) place c.in_ok-members.members.items c.index.result.now c.in_ok-members.ensures c.loop-place-test.true c.index.ensures in
    let is : oneof_row c.in_ok-linked_oneof.field-0 ≡ linked_oneof fields (belonging oneof_place declared place) (definition_row d) =
    same_oneof c.in_ok-linked_oneof.field-0 _ _ c.in_ok-linked_oneof.ensures.id (c.in_ok-linked_oneof.ensures.members ∙ members) in
    ap (λ (ts : List OneofTable). map oneof_row ts ++ oneofs_from fields declared (place + 1) (map definition_row (drop (place + 1) c.args.oneofs.now))) c.in_ok-push.ensures.items
    ∙ (oneof_more fields declared c.loop-place.tables.items c.in_ok-linked_oneof.field-0 c.args.oneofs.now place d c.loop-place-test.true c.index-oneofs-place.is is ∙ c.loop-place.invariant)
