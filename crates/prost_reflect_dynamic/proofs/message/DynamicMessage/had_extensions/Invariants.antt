use Rattle.std.specs.Prelude.{◌≡◌, ◌++◌}
use Rattle.prost_reflect_dynamic.proofs.Common.{length, map, true, All, IsOwnExtension, extension_number, had_pairs, values_left, message_type_of}
use Rattle.prost_reflect_dynamic.proofs.message.DynamicMessage.had_extensions.Given as goal

-- the descriptors of the numbers so far
abbrev pub invariant-loop-number : goal.invariant-loop-number
invariant-loop-number l = record {
  numbers : map extension_number l.extensions.items ++ map (λ p. p.0) (values_left true l.left) ≡ map (λ p. p.0) (had_pairs true l.self);
  own : All (IsOwnExtension (message_type_of l.self)) l.extensions.items;
  message_type : l.left.message_type.now ≡ message_type_of l.self;
}

abbrev pub decreases-loop-number : goal.decreases-loop-number
decreases-loop-number l = length (values_left true l.left)
