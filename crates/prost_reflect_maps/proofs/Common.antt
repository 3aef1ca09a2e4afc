-- The names that most proofs cite, handed on from one place. Declares nothing.
pub use Rattle.std.specs.BTreeMap.{is_at}
pub use Rattle.std.specs.BTreeSet.{BTreeSet}
pub use Rattle.std.specs.Cmp.{nat_cmp_total}
pub use Rattle.std.specs.List.{AllByRecursion, AllWithin, HoldsAt, insert, list_any, remove}
pub use Rattle.std.specs.List.Sorted.{IsBinarySearchResult, IsNonDecreasingBy, IsSearchInRange}
unfoldable pub use Rattle.std.specs.List.Sorted.{IsStrictlySortedBy}
pub use Rattle.std.specs.Map.{AreApart, keys_of, values_of}
pub use Rattle.std.specs.Option.{option_map, option_to_list}
pub use Rattle.std.specs.Ordering.{is_eq, is_le, match_ordering, nat_cmp, ordering_index, ordering_reverse}
pub use Rattle.std.specs.Prelude.{slice_get}
pub use Rattle.std.specs.Vec.Iter.{into_iter_items, into_iter_len}
pub use Rattle.std.specs.declared.cmp.Ordering.{Ordering}
pub use Rattle.std.specs.declared.cmp.Ordering.TheVariants.{Equal, Greater, Less}
pub use Rattle.std.proofs.Common.{Bool, Err, IfNone, List, None, Ok, Option, Result, Some, Vec, [], ap, append_assoc, ap₂, arith, cond, drop, false, filter, length, length-drop, nat_le, nat_lt, not, refl, rules, slice_index_or, slice_set, subst, suc, sym, take, true, true≢false, vec_capacity, vec_len, zero, ℕ, ⊎_elim, ◌∙◌}
pub use Rattle.std.proofs.lemmas.Grind.{common_steps}
pub use Rattle.std.proofs.lemmas.List.{append-nil}
pub use Rattle.std.proofs.lemmas.Map.Lookups.{exact_unsigned}
pub use Rattle.std.proofs.lemmas.Option.{none-some, same_Some, slice_get_within}
pub use Rattle.std.proofs.lemmas.Result.{on_err_weaker, on_ok_weaker}
pub use Rattle.std_collections.specs.Layout.BTreeMap.{index_of, one_further, seek}
pub use Rattle.prost_reflect_wire.specs.Grammar.{last}
pub use Rattle.prost_reflect_maps.specs.Held.{held_items}
pub use Rattle.prost_reflect_maps.specs.Items.{IsAscending, first_above, first_from, item_at, item_copied, items_above, items_below, items_from, last_below, left_above, left_below, put_item, with_item, without_item}
pub use Rattle.prost_reflect_maps.specs.ItemsLeft.{items_left, items_left_back}
pub use Rattle.prost_reflect_maps.specs.NumberSets.{AreReplaced, HavePlaces, chosen_up_to, has, has_place, is_among, is_up_to, left_beyond, taken_over}
pub use Rattle.prost_reflect_maps.specs.Runs.{IsAhead, IsLaid, Runs, flat, marks, run_at}
