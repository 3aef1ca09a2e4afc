use Rattle.std.specs.Prelude.{◌≡◌, ◌++◌, ◌+◌, ◌≤◌}
use Rattle.prost_reflect_maps.proofs.Common.{length, vec_len, vec_capacity, IfNone, [], option_to_list, into_iter_items, into_iter_len, has, chosen_up_to, left_beyond}
use Rattle.prost_reflect_maps.proofs.sorted_map.weaving.push_up_to.Given as goal

-- what is behind the items, with what the rest gives, is what the whole gives
abbrev pub invariant-loop-next : goal.invariant-loop-next
invariant-loop-next g l = record {
  items : l.items.items ++ chosen_up_to (has l.numbers) l.bound (option_to_list l.next ++ into_iter_items l.others) ≡ l.initial.items.items ++ chosen_up_to (has l.numbers) l.bound (option_to_list l.fn.next ++ into_iter_items l.initial.others);
  left : left_beyond l.bound (option_to_list l.next ++ into_iter_items l.others) ≡ left_beyond l.bound (option_to_list l.fn.next ++ into_iter_items l.initial.others);
  ended : IfNone l.next (into_iter_items l.others ≡ []);
  room : vec_len l.items + (length (option_to_list l.next) + into_iter_len l.others) ≤ vec_len l.initial.items + (length (option_to_list l.fn.next) + into_iter_len l.initial.others);
  capacity : vec_capacity l.initial.items ≤ vec_capacity l.items;
}

abbrev pub decreases-loop-next : goal.decreases-loop-next
decreases-loop-next g l = length (option_to_list l.next) + into_iter_len l.others
