use Rattle.std.specs.Prelude.{◌≡◌, ◌+◌, ◌≤◌, ◌++◌}
use Rattle.prost_reflect_fields.proofs.Common.{length, vec_len, vec_capacity, into_iter_items, values_where, without_values, known_of, is_listed}
use Rattle.prost_reflect_fields.proofs.parting.parted.Given as goal

-- the slots so far were parted, and there is room for those that are left
abbrev pub invariant-loop-number : goal.invariant-loop-number
invariant-loop-number g l = record {
  taken : l.taken.items ++ values_where (is_listed l.of_extensions (known_of l.message_type)) (into_iter_items l.number-iterator) ≡ values_where (is_listed l.of_extensions (known_of l.message_type)) l.fn.slots.items;
  kept : l.kept.items ++ without_values (is_listed l.of_extensions (known_of l.message_type)) (into_iter_items l.number-iterator) ≡ without_values (is_listed l.of_extensions (known_of l.message_type)) l.fn.slots.items;
  taken_room : vec_len l.taken + length (into_iter_items l.number-iterator) ≤ vec_capacity l.taken;
  kept_room : vec_len l.kept + length (into_iter_items l.number-iterator) ≤ vec_capacity l.kept;
}
