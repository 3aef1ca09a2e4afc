-- The names that most proofs cite, handed on from one place. Declares nothing.
pub use Rattle.std.specs.BTreeMap.{BTreeMap, insert_entry, is_at}
pub use Rattle.std.specs.BTreeSet.{BTreeSet}
pub use Rattle.std.specs.Bool.{Decides, beq}
pub use Rattle.std.specs.Cmp.{IsTotalOrder, nat_cmp_total, unsigned_Decides}
pub use Rattle.std.specs.List.{AllByRecursion, list_all, list_any, position_from}
unfoldable pub use Rattle.std.specs.List.Sorted.{IsStrictlySortedBy}
pub use Rattle.std.specs.Map.{keys_of, lookup}
pub use Rattle.std.specs.Option.{is_some, option_and_then, option_copied, option_copied_mut, option_map, option_to_list}
pub use Rattle.std.specs.Ordering.{int_eq, is_eq, match_ordering, nat_cmp, ordering_reverse}
pub use Rattle.std.specs.Prelude.{All, IfOk, IfSome, IsSome, IsSomeAnd, MatchResult, Result, Vec, find, flat_map, max, position, slice_get, vec_capacity, vec_len, zip}
pub use Rattle.std.specs.Str.{IsUtf8, bytes_eq}
unfoldable pub use Rattle.std.specs.Str.{chars, is_utf8}
pub use Rattle.std.specs.Vec.Iter.{into_iter_items, into_iter_len}
pub use Rattle.std.specs.declared.alloc.AllocError.{AllocError}
pub use Rattle.std.specs.declared.alloc.Global.{Global}
pub use Rattle.std.specs.declared.cmp.Ordering.{Ordering}
pub use Rattle.std.specs.declared.cmp.Ordering.TheVariants.{Equal, Greater, Less}
pub use Rattle.std.specs.declared.rc.Rc.{Rc}
pub use Rattle.std.specs.declared.result.Result.TheVariants.{Err, Ok}
pub use Rattle.std.proofs.Common.{Bool, Bor, IsTrue, List, None, Option, Some, [], ap, append-nil, append_assoc, ap₂, arith, cond, drop, false, filter, get_or, inl, inr, length, map, nat_eq, nat_lt, not, of_z, pos, refl, rules, slice_index_or, string_bytes, subst, suc, sym, take, to_z, true, true≢false, unwrap_or, w32, zero, ℕ, ℤ, ◌∙◌}
pub use Rattle.std.proofs.lemmas.Bool.{and_from, and_parts, eq-eqb, eqb-false, eqb-true, false_from_ne_true, lt-ltb, ltb-false, ltb-true, ne_eqb, or_parts}
pub use Rattle.std.proofs.lemmas.Bool.Decides.{Decides-and, Decides-at, Decides-int_eq}
pub use Rattle.std.proofs.lemmas.List.{drop_all, get_or-map, length-map, map-append, nil_from_length, take_more}
pub use Rattle.std.proofs.lemmas.List.Elements.{All-cons, All-head, All-nil, All-tail, recursion_from_All, same_from_all_zip}
pub use Rattle.std.proofs.lemmas.Option.{same_Some, slice_get_within}
pub use Rattle.std.proofs.lemmas.Result.{IfErr-weaker, IfOk-weaker, err_from_is_err_and, on_err_weaker, on_ok_weaker}
pub use Rattle.prost_reflect_wire.specs.Content.{Content, ContentOf, Entries, Item, ListValue, MapValue, MessageValue, NoEntries, NoPairs, NoValues, Pair, Pairs, ScalarValue, Slot, Stored, Unknown, Values, changed, empty, entries_of, entries_ordered, insert_number, numbers_in, ordered, pairs_ordered, schema_of, slot_at, store, table, then_unknowns, then_value, type_of, value_at, value_ordered, values_from, values_ordered, ◌and_then◌}
pub use Rattle.prost_reflect_wire.specs.Deciding.{scalar_decides}
pub use Rattle.prost_reflect_wire.specs.Decoding.{BodyJoined, ElementsJoined, ElementsRead, FieldFault, GroupProgress, Holds, NumbersJoined, Progress, ScalarFault, ScalarRead, StandsBehindKey, StandsInGroup, Step, declared_values}
pub use Rattle.prost_reflect_wire.specs.Edit.{PathTo, cleared, default_of, default_value, holds_message, in_message, merged, message_of_kind, pairs_hold_message, set_at, set_field, value_or_default, values_hold_message, with_field_value, with_value}
pub use Rattle.prost_reflect_wire.specs.EntryReading.{BodyFault, IsMapped, ScalarEntryTo}
pub use Rattle.prost_reflect_wire.specs.Fault.{ElementEnds, ElementFault, ElementPasses, Here, InGroup, InMessage, OfType, StandsInMessage, ValueFault, one_takes, opens_level, same_wire}
pub use Rattle.prost_reflect_wire.specs.Front.{DelimitedFront, KeyFault, KeyFront, PlainFault, PlainFront, RecordsFront, ValueFront, VarintFault, VarintFront}
pub use Rattle.prost_reflect_wire.specs.Grammar.{Accepts, LEVEL_LIMIT, allows, has_level, is_stray, unknown_payloads, value_payloads, value_records}
unfoldable pub use Rattle.prost_reflect_wire.specs.Grammar.{unpacked}
pub use Rattle.prost_reflect_wire.specs.Levels.{levels, stray_levels}
pub use Rattle.prost_reflect_wire.specs.Meaning.{JoinsInside, MeansInside, decoded, empty_inside, joins_nothing, meaning, pairs_in, put, scalar_values, slot_step, steps_by, value_joined, value_steps, values_in}
unfoldable pub use Rattle.prost_reflect_wire.specs.Meaning.{steps}
pub use Rattle.prost_reflect_wire.specs.Record.{Flat, Len, Payload, Plain, Record, Records, Spells, Var, body_of, items, payload_levels, payload_valid, plain_wire, record_at, short_key, short_plain, spelled, valid}
pub use Rattle.prost_reflect_wire.specs.Scalar.{Bytes, BytesKind, Closed, Double, Enum, EnumNumber, EnumNumbers, Float, Open, Scalar, ScalarKind, StringKind, Text, elem, in_i32, is_less, is_undeclared, kind_default, kind_wire, low_i32, scalar_cmp, scalar_eq, scalar_valid, written}
pub use Rattle.prost_reflect_wire.specs.Schema.{Field, FieldForm, GroupOf, Kind, MapFrom, MessageOf, Repeated, ScalarOf, Schema, Singular, ValueType, field_of, field_valid, form_valid, is_key_kind, is_list, is_map, is_message, is_packable, is_packable_kind, is_sibling, is_singular, kind_valid, known, message_has_presence, numbers_differ, passes, schema_valid}
pub use Rattle.prost_reflect_wire.specs.Sinks.{Adds}
pub use Rattle.prost_reflect_wire.specs.Storing.{slot_bytes, stored_bytes, value_bytes, with_stored}
pub use Rattle.prost_reflect_wire.specs.Typing.{EntriesTyped, EntryTest, IsOf, PairsTyped, Typed, ValueStored, ValueTyped, ValuesTyped, WellStored, WellTyped, alone_test, element_valid, elements_valid, encodable, exclusive, fit_test, is_empty_value, is_field_default, is_of_type, is_whole_stray, kept, kept_entries, kept_inside, kept_pairs, kept_value, kept_values, kind_for, kind_takes, own_kind, pairs_pass, pairs_valid, unknown_fits, value_passes, value_valid, values_pass}
pub use Rattle.prost_reflect_wire.specs.Unknown.{SkipsValue, records_of, unknown_fields_of, unknown_record}
pub use Rattle.prost_reflect_wire.specs.Varint.{AreBytes, guard, ◌>>=◌}
pub use Rattle.prost_reflect_wire.specs.Writing.{element_payloads, encoded, end_to_end, entries_records, entry_record, is_default_of, list_payloads, message_payload, pair_payloads, records}
pub use Rattle.prost_reflect_wire.specs.declared.error.DecodeError.{DecodeError}
pub use Rattle.prost_reflect_wire.specs.declared.key.WireType.{WireType}
pub use Rattle.prost_reflect_wire.specs.declared.unknown.UnknownFieldSet.{UnknownFieldSet}
pub use Rattle.prost_reflect_wire.proofs.Bodies.{items_body}
pub use Rattle.prost_reflect_wire.proofs.ByteLists.{bytes_below}
pub use Rattle.prost_reflect_wire.proofs.Numbers.{Ascending, Covers, empty_slot, entries_ascending, eqb-sym, in_insert, insert_ascending, is_in, not_in, slot_outside, slot_table, slots_same, table_covers, table_same, unknowns_apart, unknowns_here, value_apart, value_here}
pub use Rattle.prost_reflect_wire.proofs.PlainFronts.{delimited_plain, varint_plain}
pub use Rattle.prost_reflect_wire.proofs.RecordFronts.{first_front, first_parts, value_once}
pub use Rattle.prost_reflect_wire.proofs.SinkSteps.{adds_in_turn, adds_same}
pub use Rattle.prost_reflect_wire.proofs.Survivors.{field_number, filter_append}
pub use Rattle.prost_reflect_laws.proofs.Arranged.{OrderedOption, table_ordered}
pub use Rattle.prost_reflect_laws.proofs.Checked.{checked_field, checked_list, found_valid, known_differ, known_valid}
pub use Rattle.prost_reflect_laws.proofs.Kept.{entries_kept_ordered, kept_content, kept_schema, kept_type, kept_well}
pub use Rattle.prost_reflect_laws.proofs.ListSteps.{IsListed, and_nothing}
pub use Rattle.prost_reflect_laws.proofs.MessageSteps.{FoundNested, Nested, OneMessage, ReadInto, group_holds, is_its_type, message_holds, message_kind, needs_nested, nested_sound, takes_nested}
pub use Rattle.prost_reflect_laws.proofs.ScalarEntries.{StaysWhole, entry_key_valid, field_checked, key_read_valid, map_keyed, scalar_entry_holds, scalar_entry_stays}
pub use Rattle.prost_reflect_laws.proofs.Slots.{apart_members, members_apart, table_passes}
pub use Rattle.prost_reflect_laws.proofs.StoredPasses.{ByItself, OptionPasses, SlotPasses, passes_slots, stored_passes}
pub use Rattle.prost_reflect_laws.proofs.StoredSteps.{Known, value_in_order}
pub use Rattle.prost_reflect_laws.proofs.WrittenEntries.{kept_unknowns, message_written, scalar_written, written_store, written_wire}
pub use Rattle.prost_reflect_tables.specs.Equality.{rows_decide, rows_eq}
pub use Rattle.prost_reflect_tables.specs.Linked.{enum_linked, field_linked, has_entry_numbers, is_linked, kind_in_range, message_linked, oneof_in_range}
pub use Rattle.prost_reflect_tables.specs.Linking.{is_repeated}
pub use Rattle.prost_reflect_tables.specs.Places.{fields_at, fields_or_none, place_of, row_of}
pub use Rattle.prost_reflect_tables.specs.Rows.{EnumRow, EnumValueRow, FieldRow, MessageRow, TableRows, field_row}
pub use Rattle.prost_reflect_tables.specs.Shown.{enum_kind, first_number, form_of, map_entry, own_type, schema_default, schema_field, schema_kind, value_type_of}
unfoldable pub use Rattle.prost_reflect_tables.specs.Shown.{schema_from}
pub use Rattle.prost_reflect_tables.specs.declared.tables.Cardinality.{Cardinality}
pub use Rattle.prost_reflect_tables.specs.declared.tables.TableKind.{TableKind}
pub use Rattle.prost_reflect_tables.proofs.Fields.{no_row, row_at_number, row_at_place, row_of_number}
pub use Rattle.prost_reflect_tables.proofs.Keeping.{entry_keeps, field_keeps, fields_ascend, passes_at, schema_is_valid}
pub use Rattle.prost_reflect_pool.specs.Enums.{first_of, numbers_or_none, values_at, values_or_none}
pub use Rattle.prost_reflect_pool.specs.Lookups.{extending_or_none, extension_where, json_named_field, named_field, named_value, numbered_value}
pub use Rattle.prost_reflect_pool.specs.MapParts.{map_parts}
pub use Rattle.prost_reflect_pool.specs.MessageTypes.{SameMessage, fields_of, schema_at, type_at}
pub use Rattle.prost_reflect_pool.specs.PoolEquality.{contents_decide, contents_eq}
unfoldable pub use Rattle.prost_reflect_pool.specs.Pools.{contents_of}
pub use Rattle.prost_reflect_pool.specs.SharedPools.{files_of, pool_catalog, pool_contents, pool_rows}
pub use Rattle.prost_reflect_pool.specs.declared.pool.LinkedPool.{LinkedPool}
pub use Rattle.prost_reflect_pool.specs.declared.pooled_type.PooledType.{PooledType}
pub use Rattle.prost_reflect_pool.proofs.EqualTypes.{rows_follow, rows_same}
pub use Rattle.prost_reflect_fields.specs.FieldSlots.{UnknownAdded, has_value, left_in, numbered, put_slot, put_value, records_at, records_in, revalued, stored_at, then_slot, unknown_at, unknown_in, unknown_sets, value_alone, value_in, values_alone, values_where, with_slot, with_value_in, without_values}
pub use Rattle.prost_reflect_maps.specs.Items.{IsAscending, item_at, put_item, with_item}
pub use Rattle.prost_reflect_maps.specs.ItemsLeft.{items_left, items_left_back}
pub use Rattle.prost_reflect_fields.specs.Known.{all_kept, are_records_of, are_siblings, is_known, is_listed, keeps_unknown, known_of}
pub use Rattle.prost_reflect_maps.specs.NumberSets.{AreReplaced, has, is_chosen, put_chosen}
pub use Rattle.prost_reflect_fields.specs.WholeOneofs.{HasWholeOneofs}
pub use Rattle.prost_reflect_fields.specs.Sound.{IsSound, Sound, UnknownKept, prepared, set_value_at, unknown_kept}
pub use Rattle.prost_reflect_fields.specs.declared.slot.FieldSlot.{FieldSlot}
pub use Rattle.prost_reflect_fields.specs.formers.field_set.FieldSet.{slot_former, slot_weighed}
pub use Rattle.prost_reflect_maps.proofs.ItemChanges.{Apart, apart_back, apart_of, at_each, by_number, itself, none_above, put_apart, put_same, with_apart, with_same}
pub use Rattle.prost_reflect_fields.proofs.Siblings.{siblings_back, siblings_self}
pub use Rattle.prost_reflect_fields.proofs.SlotChanges.{ascending_put, ascending_with_value, ascending_without_values, item_without, records_without, value_without, value_written, value_written_apart}
pub use Rattle.prost_reflect_dynamic.specs.Access.{HadContent, HasOneMember, IsDefaultAt, IsLentIf, IsLentOf, IsOwnField, IsStoredOr, NameFound, NameMissing, NumberFound, NumberMissing, TakesFound, had_at, has_at, is_field_number, left_at, left_if, number_declared, number_named, number_of, saying, says_nothing, takes, takes_at}
pub use Rattle.prost_reflect_dynamic.specs.ContentLaws.{MapInsert, MessageOrder, MessageSlots, SlotsAfterClear, SlotsAfterSet, SlotsAfterUnknown, SlotsDetermine, ValueViews, compare_keys, pairs_shown}
pub use Rattle.prost_reflect_dynamic.specs.Contents.{cleared_if, entries_without, in_entries, set_if, unknown_added, value_cleared, value_set, values_taken, with_unknown}
pub use Rattle.prost_reflect_dynamic.specs.Copies.{SameSlot, SameStored, SameStoring, pairs_seen}
pub use Rattle.prost_reflect_dynamic.specs.DeepTypes.{all_typed, entries_typed, items_typed, kind_place, pairs_typed, place_for, stands_there, stored_kind, value_typed}
pub use Rattle.prost_reflect_dynamic.specs.Defaults.{IsDefaultBy, IsDefaultByRow, IsEmptyOf, IsRowDefault, default_by_row, row_default}
pub use Rattle.prost_reflect_rows.specs.RowKinds.{place_named, single_place, names_message}
pub use Rattle.prost_reflect_dynamic.specs.Depths.{GivesInside, LendsInside}
pub use Rattle.prost_reflect_dynamic.specs.Edits.{IsPart, IsWhole, LeavesMessage, LeavesSet, Removes, Sets, held_set}
pub use Rattle.prost_reflect_dynamic.specs.Encodables.{arranged, entries_pass, fits_at, items_pass, slot_passes, slots_pass, value_arranged}
pub use Rattle.prost_reflect_dynamic.specs.Encoding.{AreWritable, IsWritable, OwnUnknown, ValueWritable, entries_bytes, nested_bytes, unknown_bytes}
pub use Rattle.prost_reflect_dynamic.specs.ExtensionAccess.{IsOwnExtension, extension_number, extension_takes}
pub use Rattle.prost_reflect_dynamic.specs.KeptLaws.{Arranged, KeptAfterClear, KeptAfterClearAll, KeptAfterSet, KeptAfterUnknown, KeptAfterWriting, MessageArranged}
pub use Rattle.prost_reflect_dynamic.specs.Lists.{AddsElements, AddsPacked, AreElements, ElementWritable, IsList, IsListOrNone, JoinsElements, RefusesElements, RefusesPacked, TakesScalars, element_bytes, elements_bytes, list_bytes, payloads_bytes, records_bytes, with_element}
pub use Rattle.prost_reflect_rows.specs.FieldKinds.{ListField, MapOfRows, ScalarMap, NestedMap, NestedMapOfRows, NumberList, PlainField, NestedField, NestedList, nested_kind}
pub use Rattle.prost_reflect_dynamic.specs.Maps.{IsAbsentValue, IsDefaultOf, IsKindDefault, IsMap, ReadsEntry, RefusesEntry, TakesPairs, entry_bytes, pairs_bytes}
pub use Rattle.prost_reflect_rows.specs.RecordNumbers.{HasNumbersOf}
pub use Rattle.prost_reflect_dynamic.specs.Merged.{IsJoined, IsMeaningOfBytes, IsMeaningOfRecords, MergesMeaning}
pub use Rattle.prost_reflect_dynamic.specs.Named.{NamesEqual, NamesSame, schema_named, type_named}
pub use Rattle.prost_reflect_dynamic.specs.NamedExtensions.{Extends, extension_named, extension_row_named}
pub use Rattle.prost_reflect_dynamic.specs.NamedField.{row_at}
pub use Rattle.prost_reflect_rows.specs.Paths.{declared_place, field_at, message_inside, own_field, path_place, row_led}
pub use Rattle.prost_reflect_dynamic.specs.NamedFields.{descriptor_fields, is_declared, is_declared_at}
pub use Rattle.prost_reflect_rows.specs.KindNames.{enums_in}
pub use Rattle.prost_reflect_dynamic.specs.NamedKinds.{kind_named, table_kind}
pub use Rattle.prost_reflect_dynamic.specs.NamedLists.{values_of}
pub use Rattle.prost_reflect_dynamic.specs.Nested.{HeldMessage, NestedRead, ReadInside, ReadIntoHeld, StandsBehindNested, StandsInHeld}
pub use Rattle.prost_reflect_rows.specs.Nested.{NestedFault, nested_wire}
pub use Rattle.prost_reflect_dynamic.specs.NestedMaps.{AreEntries, ReadsNestedEntry, RefusesNestedEntry, nested_entry_bytes, nested_pairs_bytes}
pub use Rattle.prost_reflect_dynamic.specs.Numbers.{BodyTaken, JoinsNumbers, PartsNumbers, declared_in, is_stray_varint, number_element, numbers_taken, strays_in, varints_added}
pub use Rattle.prost_reflect_dynamic.specs.Paths.{HeldPath, IsSetAt, SetInHeld}
pub use Rattle.prost_reflect_walks.specs.Places.{GivesNext}
pub use Rattle.prost_reflect_dynamic.specs.Present.{entry_present, kept_slot, number_listed, present_in, slot_present, unknown_present, value_present}
pub use Rattle.prost_reflect_dynamic.specs.PresentWalks.{ExtensionItem, FieldItem, IsItem, IsOwn, NestsInside, PresentItem, UnknownItem, all_items, items_of, present_items, present_left, present_steps, slot_items, unknown_items, value_items, value_or, waiting_items}
pub use Rattle.prost_reflect_dynamic.specs.RowLawProofs.{extension_default_fits, field_default_fits, some_there}
pub use Rattle.prost_reflect_dynamic.specs.Same.{equal_messages, equal_values, message_decides, same_entries, same_items, same_message, same_pairs, same_value, value_decides}
pub use Rattle.prost_reflect_rows.specs.Scalars.{HasWire, TakesScalar, is_stray_number, kept_scalar_bytes, scalar_bytes, scalar_record_bytes}
pub use Rattle.prost_reflect_dynamic.specs.Scalars.{IsBlank, IsElement, IsScalar, ReadsScalar, ReadsStray, RefusesScalar, StaysUnknown, plain_kind, scalar_in, scalar_of}
pub use Rattle.prost_reflect_dynamic.specs.Stored.{BothAt, ItemThen, NoItems, NothingStored, PairThen, StoredEntries, StoredInside, StoredItems, StoredList, StoredMap, StoredMessage, StoredPairs, StoredScalar, StoredValue, UnknownAt, ValueAt, message_stored, stored_entries, stored_entry, stored_items, stored_message_step, stored_pairs, stored_step, value_stored}
pub use Rattle.prost_reflect_dynamic.specs.TypedSteps.{StaysTyped, ValueStaysTyped, element_typed, entry_typed, item_added, item_last, typed_as, typed_at}
pub use Rattle.prost_reflect_dynamic.specs.UnknownLists.{UnknownListed, all_unknown, taken_left, unknown_left, unknown_records, without_unknown}
pub use Rattle.prost_reflect_dynamic.specs.ValueLists.{IsExtensionPair, IsFieldPair, extensions_left, extensions_steps, fields_left, fields_steps, had_in, had_numbers, had_pairs, had_values, said, values_left}
pub use Rattle.prost_reflect_dynamic.specs.Variants.{key_among, key_in, list_in, message_in}
pub use Rattle.prost_reflect_dynamic.specs.View.{content_of, entries_from, key_of, message_step, message_type_of, overwritten_at, pairs_from, payloads_of, slot_of, stored_in, value_of, value_step, written_at}
pub use Rattle.prost_reflect_walks.specs.Walks.{EachGiven}
pub use Rattle.prost_reflect_dynamic.specs.declared.descriptor.extension.ExtensionDescriptor.{ExtensionDescriptor}
pub use Rattle.prost_reflect_dynamic.specs.declared.descriptor.field.FieldDescriptor.{FieldDescriptor}
pub use Rattle.prost_reflect_dynamic.specs.declared.descriptor.message.MessageDescriptor.{MessageDescriptor}
pub use Rattle.prost_reflect_dynamic.specs.declared.descriptor.pool.DescriptorPool.{DescriptorPool}
pub use Rattle.prost_reflect_dynamic.specs.declared.message.DynamicMessage.{DynamicMessage, size-DynamicMessage, size_is-DynamicMessage}
pub use Rattle.prost_reflect_dynamic.specs.declared.message.present.PresentNumber.{PresentNumber}
pub use Rattle.prost_reflect_dynamic.specs.declared.value.MapKey.{MapKey}
pub use Rattle.prost_reflect_dynamic.specs.declared.value.Value.{Value, out-Value, size-Value, the_lemmas}
pub use Rattle.prost_reflect_dynamic.specs.declared.value.Value.TheFolds.{fold-roll-DynamicMessage, fold-roll-Value, fold_out-DynamicMessage, fold_out-Value, ind-DynamicMessage, ind-Value, map-DynamicMessage, map-Value}
pub use Rattle.prost_reflect_dynamic.specs.declared.value.Value.TheOpen.{DynamicMessage-F, Value-F}
pub use Rattle.prost_reflect_dynamic.specs.declared.value.Value.TheViews.{roll-DynamicMessage}
unfoldable pub use Rattle.prost_reflect_dynamic.specs.declared.value.Value.TheViews.{roll-Value}
