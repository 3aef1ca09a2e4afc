use Rattle.std.specs.Prelude.{◌≡◌}
use Rattle.prost_reflect_fields.proofs.Common.{without_values, known_of, is_other_member}
use Rattle.prost_reflect_fields.proofs.PresentSiblings.{value_count}
use Rattle.prost_reflect_fields.proofs.stored.clear_listed.Given as goal

abbrev pub invariant-loop-items : goal.invariant-loop-items
invariant-loop-items g l = record {
  left : without_values (is_other_member (known_of l.message_type) l.oneof l.number) (g.S.NumberMap.entries l.fields) ≡ without_values (is_other_member (known_of l.message_type) l.oneof l.number) (g.S.NumberMap.entries l.initial.fields);
  noted : g.S.NumberMap.noted l.fields ≡ g.S.NumberMap.noted l.initial.fields;
}

-- each value that is taken is one less
abbrev pub decreases-loop-items : goal.decreases-loop-items
decreases-loop-items g l = value_count (is_other_member (known_of l.message_type) l.oneof l.number) (g.S.NumberMap.entries l.fields)
