use Rattle.std.specs.Prelude.{◌≡◌}
use Rattle.prost_reflect_linking.proofs.Common.{drop, map, field_row, definition_row, oneof_place, member_place, empty_lists, grouped}
use Rattle.prost_reflect_linking.proofs.link.members_by_oneof.Given as goal

abbrev pub invariant-loop-definition : goal.invariant-loop-definition
invariant-loop-definition l =
    grouped oneof_place (member_place (map field_row l.fields)) (map definition_row (drop l.definition-index l.declared)) 0 (map (λ xs. xs.items) l.lists.items)
    ≡ grouped oneof_place (member_place (map field_row l.fields)) (map definition_row l.declared) 0 (empty_lists l.oneofs)
