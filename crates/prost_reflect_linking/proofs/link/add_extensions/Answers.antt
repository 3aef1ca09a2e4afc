use Rattle.std.specs.Prelude.{◌≡◌, ◌<◌}
use Rattle.std.specs.Iterator.Adapters.{zip_first, zip_second}
use Rattle.std.specs.List.{zip}
use Rattle.std.specs.Slice.Iter.{iter_rest}
use Rattle.std.proofs.lemmas.Slice.Zip.{Zip-more, either_empty_from_Zip}
use Rattle.prost_reflect_linking.proofs.Common.{true, List, Option, ℕ, map, refl, sym, ap, ◌∙◌, DefinitionRow, FieldRow, definition_row, with_item, grouped, length, arith, list_rows}
use Rattle.prost_reflect_types.specs.declared.FieldDescriptorProto.{FieldDescriptorProto}
use Rattle.prost_reflect_tables.proofs.Grouping.{item_grouped, grouped_none}
use Rattle.prost_reflect_linking.proofs.Listed.{listed_nowhere, listed_pushed}
use Rattle.prost_reflect_linking.specs.Meanings.{MeaningRow, field_meant, meaning_row}
use Rattle.prost_reflect_linking.proofs.Paired.{both_done, one_more}
use Rattle.prost_reflect_linking.proofs.link.add_extensions.Goals as goal

abbrev Pair : Type 0
Pair = DefinitionRow FieldDescriptorProto × MeaningRow

abbrev place : Pair → Option ℕ
place p = p.1.extendee

-- Before the next pair, what is left begins with it.
pub loop-definition-preserved : goal.loop-definition-preserved
loop-definition-preserved c =
    let d = c.in-Some.definition in
    let m = c.in-Some.meaning in
    let x : Pair = (definition_row d.now, meaning_row m.now) in
    let old = list_rows c.loop-definition.lists.items in
    let first = c.args.first in
    let rest = zip (map definition_row (iter_rest (zip_first c.next.new.self))) (map meaning_row (iter_rest (zip_second c.next.new.self))) in
    let step = Zip-more c.loop-definition.definition-iterator c.next.new.self c.next.result (d, m) c.in-Some.is c.next.ensures.steps in
    let more = one_more definition_row meaning_row _ _ _ _ d.now m.now step.0 step.1 in
    let long : c.len.result ≡ length c.loop-definition.lists.items = omega (arith, c.len.ensures, c.loop-definition.lists.ok.0) in
    let stays : with_item m.now.extendee (field_meant true x) first old ≡ old =
    listed_nowhere m.now.extendee (field_meant true x) first c.loop-definition.lists.items c.len.result long (c.in_default.ensures.outside refl) in
    ap (grouped place (field_meant true) rest first) (sym stays)
    ∙ (item_grouped place (field_meant true) x rest first old
    ∙ (ap (λ (ps : List Pair). grouped place (field_meant true) ps first old) (sym more) ∙ c.loop-definition.invariant))

pub loop-definition-preserved-in_ok-push : goal.loop-definition-preserved-in_ok-push
loop-definition-preserved-in_ok-push c =
    let d = c.in-Some.definition in
    let m = c.in-Some.meaning in
    let x : Pair = (definition_row d.now, meaning_row m.now) in
    let old = list_rows c.loop-definition.lists.items in
    let first = c.args.first in
    let rest = zip (map definition_row (iter_rest (zip_first c.next.new.self))) (map meaning_row (iter_rest (zip_second c.next.new.self))) in
    let step = Zip-more c.loop-definition.definition-iterator c.next.new.self c.next.result (d, m) c.in-Some.is c.next.ensures.steps in
    let more = one_more definition_row meaning_row _ _ _ _ d.now m.now step.0 step.1 in
    let there = c.in-Some-offset_of.ensures.there in
    let within : c.in-Some-offset_of.offset < length c.loop-definition.lists.items = omega (arith, there.0, c.len.ensures, c.loop-definition.lists.ok.0) in
    let added = listed_pushed m.now.extendee c.in_ok-linked_field.field-0 first c.in-Some-offset_of.offset c.loop-definition.lists.items c.push.new.self c.index_mut.result.now there.1 within c.index_mut.ensures.value c.in_ok-push.ensures.items in
    ap (grouped place (field_meant true) rest first) (added ∙ ap (λ (f : FieldRow). with_item m.now.extendee f first old) c.in_ok-linked_field.ensures)
    ∙ (item_grouped place (field_meant true) x rest first old
    ∙ (ap (λ (ps : List Pair). grouped place (field_meant true) ps first old) (sym more) ∙ c.loop-definition.invariant))

pub returns : goal.returns
returns c =
    let lists = list_rows c.loop-definition.lists.items in
    let done = both_done definition_row meaning_row _ _ (either_empty_from_Zip c.loop-definition.definition-iterator c.next.new.self c.next.result c.in-None.is c.next.ensures.steps) in
    sym (grouped_none place (field_meant true) c.args.first lists)
    ∙ (ap (λ (ps : List Pair). grouped place (field_meant true) ps c.args.first lists) (sym done) ∙ c.loop-definition.invariant)
