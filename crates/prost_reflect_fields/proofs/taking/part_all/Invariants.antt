use Rattle.std.specs.Prelude.{◌≡◌, ◌++◌, ◌+◌, ◌≤◌}
use Rattle.prost_reflect_fields.proofs.Common.{vec_capacity, vec_len, into_iter_items, into_iter_len, unknown_sets, values_alone}
use Rattle.prost_reflect_fields.proofs.taking.part_all.Given as goal

-- what is put aside, with what the rest gives, is what the whole gives; and there is room for the rest
abbrev pub invariant-loop-number : goal.invariant-loop-number
invariant-loop-number g l = record {
  values : l.values.items ++ values_alone (into_iter_items l.number-iterator) ≡ l.initial.values.items ++ values_alone l.fn.slots.items;
  sets : l.sets.items ++ unknown_sets (into_iter_items l.number-iterator) ≡ l.initial.sets.items ++ unknown_sets l.fn.slots.items;
  values_room : vec_len l.values + into_iter_len l.number-iterator ≤ vec_capacity l.values;
  sets_room : vec_len l.sets + into_iter_len l.number-iterator ≤ vec_capacity l.sets;
}
