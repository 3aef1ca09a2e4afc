use Rattle.std.specs.Prelude.{◌≡◌, ◌+◌, ◌≤◌, ◌++◌}
use Rattle.prost_reflect_dynamic.proofs.Common.{length, map, zip, vec_len, vec_capacity, into_iter_items, known_of, said}
use Rattle.prost_reflect_dynamic.proofs.message.lists.taking.paired.Given as goal

-- the values so far have their descriptors, and there is room for those that are left
abbrev pub invariant-loop-number : goal.invariant-loop-number
invariant-loop-number g l = record {
  pairs : l.pairs.items ++ zip (into_iter_items l.descriptors) (map (λ p. p.1) (said (known_of l.message_type) (into_iter_items l.number-iterator))) ≡ zip l.fn.descriptors.items (map (λ p. p.1) (said (known_of l.message_type) l.fn.taken.items));
  room : vec_len l.pairs + length (into_iter_items l.descriptors) ≤ vec_capacity l.pairs;
}
