-- The names that most proofs cite, handed on from one place. Declares nothing.
pub use Rattle.std.specs.BTreeMap.{is_at}
pub use Rattle.std.specs.BTreeSet.{BTreeSet, contains}
pub use Rattle.std.specs.List.{All, AllByRecursion, list_all, list_any}
unfoldable pub use Rattle.std.specs.List.Sorted.{IsStrictlySortedBy}
pub use Rattle.std.specs.Map.{keys_of}
pub use Rattle.std.specs.Option.{is_some, option_and_then, option_copied, option_map, option_to_list}
pub use Rattle.std.specs.Ordering.{is_eq, nat_cmp}
pub use Rattle.std.specs.Prelude.{IfSome, slice_get}
pub use Rattle.std.specs.Vec.Iter.{into_iter_items, into_iter_len}
pub use Rattle.std.specs.declared.cmp.Ordering.TheVariants.{Less}
pub use Rattle.std.proofs.Common.{Bool, Bor, Err, List, None, Ok, Option, Result, Some, [], ap, append_assoc, ap₂, arith, cond, drop, drop-cons, drop_of_length-le, false, filter, get_or, inr, length, map, nat_eq, nat_lt, not, refl, rules, subst, suc, sym, true, true≢false, unwrap_or, vec_capacity, vec_len, zero, ℕ, ◌∙◌}
pub use Rattle.std.proofs.lemmas.Bool.{and_from, and_parts, eq-eqb, eqb-false, eqb-true, false_from_ne_true, ltb-true, ne_eqb, not-true, or_left, or_parts, or_right}
pub use Rattle.std.proofs.lemmas.List.{length-map}
pub use Rattle.std.proofs.lemmas.Option.{same_Some, slice_get-map, slice_get_past, slice_get_read}
pub use Rattle.std.proofs.lemmas.Result.{on_err_weaker, on_ok_weaker}
pub use Rattle.prost_reflect_wire.specs.Schema.{Field, MessageType, Schema, field_of, field_valid, is_sibling, known, numbers_differ, passes, same_oneof}
pub use Rattle.prost_reflect_wire.specs.Unknown.{records_of, unknown_record}
pub use Rattle.prost_reflect_wire.proofs.Survivors.{field_number}
pub use Rattle.prost_reflect_tables.specs.Rows.{FieldRow, MessageRow, OneofRow, TableRows, field_row, message_row, oneof_row}
pub use Rattle.prost_reflect_pool.specs.MessageTypes.{fields_of, schema_at}
pub use Rattle.prost_reflect_pool.specs.SharedPools.{files_of, pool_rows}
pub use Rattle.prost_reflect_pool.specs.declared.pooled_type.PooledType.{PooledType}
pub use Rattle.prost_reflect_fields.specs.FieldSlots.{AddedIn, SameIn, SameStored, UnknownAdded, clear_value, first_value, has_value, left_in, numbered, put_slot, put_value, records_at, records_in, revalued, stored_at, then_slot, unknown_sets, value_in, values_alone, values_where, with_slot, with_value, with_value_in, without_value_beside, without_values}
pub use Rattle.prost_reflect_maps.specs.Items.{IsAscending, item_at, put_item, with_item, without_item}
pub use Rattle.prost_reflect_maps.specs.ItemsLeft.{items_left}
pub use Rattle.prost_reflect_fields.specs.Known.{all_kept, are_records_of, are_siblings, is_known, is_listed, is_other_member, keeps_unknown, known_of, oneof_of}
pub use Rattle.prost_reflect_fields.specs.Members.{HasMembers, OnlyMember, is_member, rows_at}
pub use Rattle.prost_reflect_fields.specs.Noted.{AreNoted, NotesOwn, NotesWhole, is_member_of, is_noted, note_under, with_note, without_noted}
pub use Rattle.prost_reflect_maps.specs.NumberSets.{AreReplaced, has, is_chosen, put_chosen}
pub use Rattle.prost_reflect_fields.specs.WholeOneofs.{HasWholeOneofs, is_in_oneof}
pub use Rattle.prost_reflect_fields.specs.Sound.{IsSound, OneofsSingle, Sound, prepared, set_value_at, unknown_kept}
pub use Rattle.prost_reflect_fields.specs.declared.slot.FieldSlot.{FieldSlot}
pub use Rattle.prost_reflect_fields.specs.declared.slot.FieldSlot.TheVariants.{Both, Unknown, Value}
