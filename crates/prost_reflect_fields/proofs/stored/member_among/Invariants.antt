use Rattle.std.specs.Prelude.{◌≡◌}
use Rattle.prost_reflect_fields.proofs.Common.{drop, first_value, known_of, is_other_member}
use Rattle.prost_reflect_fields.proofs.stored.member_among.Given as goal

-- none was found so far
abbrev pub invariant-loop-item : goal.invariant-loop-item
invariant-loop-item g l = first_value (is_other_member (known_of l.message_type) l.oneof l.number) (drop l.item-index l.items) ≡ first_value (is_other_member (known_of l.message_type) l.oneof l.number) l.items
