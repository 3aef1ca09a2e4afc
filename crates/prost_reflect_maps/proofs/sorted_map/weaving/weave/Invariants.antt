use Rattle.std.specs.Prelude.{◌++◌, ◌+◌, ◌≤◌, ◌≡◌}
use Rattle.prost_reflect_maps.proofs.Common.{length, vec_len, vec_capacity, IfNone, [], option_to_list, into_iter_items, into_iter_len}
use Rattle.prost_reflect_maps.proofs.Weaving.{IsWoven}
use Rattle.prost_reflect_maps.proofs.sorted_map.weaving.weave.Given as goal

abbrev pub invariant-loop-number : goal.invariant-loop-number
invariant-loop-number g l = record {
  woven : IsWoven l.numbers l.items.items (into_iter_items l.number-iterator) (option_to_list l.next ++ into_iter_items l.others) l.fn.olds.items l.fn.others.items;
  ended : IfNone l.next (into_iter_items l.others ≡ []);
  room : vec_len l.items + (length (option_to_list l.next) + into_iter_len l.others) + into_iter_len l.number-iterator ≤ vec_capacity l.items;
}
