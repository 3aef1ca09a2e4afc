use Rattle.std.specs.Prelude.{◌≡◌, ◌++◌}
use Rattle.prost_reflect_dynamic.proofs.Common.{length, map, false, All, IsOwnField, number_of, had_pairs, values_left, message_type_of}
use Rattle.prost_reflect_dynamic.proofs.message.DynamicMessage.had_fields.Given as goal

-- the descriptors of the numbers so far
abbrev pub invariant-loop-number : goal.invariant-loop-number
invariant-loop-number l = record {
  numbers : map number_of l.fields.items ++ map (λ p. p.0) (values_left false l.left) ≡ map (λ p. p.0) (had_pairs false l.self);
  own : All (IsOwnField (message_type_of l.self)) l.fields.items;
  message_type : l.left.message_type.now ≡ message_type_of l.self;
}

abbrev pub decreases-loop-number : goal.decreases-loop-number
decreases-loop-number l = length (values_left false l.left)
