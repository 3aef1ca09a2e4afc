use Rattle.std.proofs.Common.{rules, ◌≡◌, ◌<◌, ◌≤◌, ◌&&◌, true, false, [], length, map, refl, sym, subst, arith}
use Rattle.std.proofs.lemmas.Result.{IfOk-weaker}
use Rattle.std.specs.BTreeMap.{IsOrdered}
use Rattle.prost_reflect_wire.specs.Content.{values_from}
use Rattle.prost_reflect_dynamic.specs.ContentLaws.{compare_keys}
use Rattle.prost_reflect_dynamic.specs.Access.{has_at, is_field_number}
use Rattle.prost_reflect_dynamic.specs.ExtensionAccess.{extension_number}
use Rattle.prost_reflect_dynamic.specs.View.{value_of, content_of, message_type_of}
use Rattle.prototool_commands.proofs.ClearedCalls.{EntriesCleared, elements_cleared, entry_cleared, entries_cleared, map_inside, through_not, through_unlisted, through_extension, through_field}
use Rattle.prototool_commands.proofs.ClearedLists.{one_changed_at}
use Rattle.prototool_commands.proofs.redact.clearing.+clearing.Goals as goal

pub clear_elements-loop-value-preserved : goal.clear_elements-loop-value-preserved
clear_elements-loop-value-preserved t c =
    let l = c.loop-value in
    let less : l.value-index < length l.value-items = search rules in
    one_changed_at value_of c.args.path.now l.value-index _ l.value-items (values_from (map value_of c.args.values.now.items)) c.value-item.result c.clear_element.new.value (omega arith) less l.invariant c.in_ok-clear_element.ensures

pub clear_elements-returns : goal.clear_elements-returns
clear_elements-returns t c =
    let l = c.loop-value in
    let whole : c.args.values.now.len ≡ length l.value-items = search rules in
    let same : length l.value-items ≡ length c.args.values.now.items = search rules in
    let done : length l.value-items ≤ l.value-index = search rules in
    elements_cleared c.args.path.now l.value-index c.args.values.now.len l.value-items c.args.values.now.items whole same done l.invariant

pub clear_entries-loop-key-preserved : goal.clear_entries-loop-key-preserved
clear_entries-loop-key-preserved t c =
    let all = c.args.entries.now.entries in
    let new = c.loop-key.entries.entries in
    let sorted = subst (IsOrdered compare_keys) c.replace-taken.ensures.value c.into_iter-key-iterator.ensures.into_iter_gives.5 in
    let so_far = subst (λ left. EntriesCleared c.args.path.now all left new) c.in-Some.ensures.steps c.loop-key.invariant in
    entry_cleared c.args.path.now all c.next.new.self new _ c.in-Some.key c.in-Some.value c.clear_element.new.value sorted so_far c.in_ok-clear_element.ensures c.in_ok-insert.ensures.entries

pub clear_entries-returns : goal.clear_entries-returns
clear_entries-returns t c =
    let all = c.args.entries.now.entries in
    let new = c.loop-key.entries.entries in
    let none : c.loop-key.key-iterator ≡ [] = search rules in
    entries_cleared c.args.path.now all new (subst (λ left. EntriesCleared c.args.path.now all left new) none c.loop-key.invariant)

pub clear_inside-returns-in-Some-as_map_mut : goal.clear_inside-returns-in-Some-as_map_mut
clear_inside-returns-in-Some-as_map_mut t c =
    IfOk-weaker c.clear_entries.result _ _
    (λ _ cleared. map_inside c.args.path.now c.args.value.now c.in-Some-as_map_mut.entries.now.entries c.clear_entries.new.entries (sym c.in-Some-as_map_mut.ensures.value) cleared)
    c.clear_entries.ensures

pub clear_in_extension-returns-then-not-has_extension : goal.clear_in_extension-returns-then-not-has_extension
clear_in_extension-returns-then-not-has_extension t c =
    let none : has_at (extension_number c.args.extension.now) (content_of c.args.message.now) ≡ false = search rules in
    through_not (content_of c.args.message.now) (extension_number c.args.extension.now) c.args.path.now none

pub clear_in_extension-returns : goal.clear_in_extension-returns
clear_in_extension-returns t c =
    let old = c.args.message.now in
    let n = extension_number c.args.extension.now in
    let after = c.clear_inside.new.value in
    let had : has_at n (content_of old) ≡ true = search rules in
    IfOk-weaker c.clear_inside.result _ _
    (λ _ inside. through_extension old _ n n c.args.path.now c.in_ok-value.value.now after refl had c.in_ok-value.ensures.value inside (c.in_ok-value.ensures.content after))
    c.clear_inside.ensures

pub clear_in_field-returns-then-not-has_field_by_number : goal.clear_in_field-returns-then-not-has_field_by_number
clear_in_field-returns-then-not-has_field_by_number t c =
    let old = c.args.message.now in
    let n = c.args.number in
    let none : (is_field_number (message_type_of old) n && has_at n (content_of old)) ≡ false = search rules in
    through_unlisted old n c.args.path.now c.requires none

pub clear_in_field-returns-in-Ok : goal.clear_in_field-returns-in-Ok
clear_in_field-returns-in-Ok t c =
    let old = c.args.message.now in
    let n = c.args.number in
    let after = c.clear_inside.new.value in
    let had : (is_field_number (message_type_of old) n && has_at n (content_of old)) ≡ true = search rules in
    IfOk-weaker c.clear_inside.result _ _
    (λ _ inside. through_field old _ n c.args.path.now c.in-Ok.value.now after had c.in-Ok.ensures.value inside (c.in-Ok.ensures.content after))
    c.clear_inside.ensures
