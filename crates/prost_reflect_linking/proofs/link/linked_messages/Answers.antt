use Rattle.std.specs.Prelude.{◌≡◌, ◌<◌, ◌∷◌, ◌++◌}
use Rattle.std.proofs.Common.{⊎_elim, append-nil}
use Rattle.std.proofs.lemmas.List.{nil_from_length}
use Rattle.prost_reflect_linking.proofs.Common.{false, List, Vec, Global, length, map, drop, get_or, arith, sym, ap, ◌∙◌, definition_row, field_row, list_rows}
use Rattle.prost_reflect_linking.proofs.Paired.{first_left, message_more}
use Rattle.prost_reflect_linking.specs.Meanings.{all_meant, meaning_lists, meaning_row, messages_meant}
use Rattle.prost_reflect_linking.specs.declared.meaning.Meaning.{Meaning}
use Rattle.prost_reflect_flat.proofs.EntryFlags.{flag_at}
use Rattle.prost_reflect_flat.specs.FlatViews as flat_views
use Rattle.prost_reflect_tables.specs.Linking.{linked_message}
use Rattle.prost_reflect_tables.specs.Rows as rows
use Rattle.prost_reflect_tables.specs.Rows.{FieldRow}
use Rattle.prost_reflect_flat.specs.declared.definitions.Definition.{Definition}
use Rattle.prost_reflect_flat.specs.declared.definitions.FlatMessage.{FlatMessage}
use Rattle.prost_reflect_tables.specs.declared.tables.FieldTable.{FieldTable}
use Rattle.prost_reflect_types.specs.declared.FieldDescriptorProto.{FieldDescriptorProto}
use Rattle.prost_reflect_linking.proofs.link.linked_messages.Goals as goal

pub linked_message-requires : goal.linked_message-requires
linked_message-requires c =
    let s = c.loop-place.place-iterator in
    let steps = c.in-Some.ensures.steps in
    let long = ap (λ (ms : List FlatMessage). length ms) steps.0.0.0.0 in
    let within : s.count < length c.args.messages.items = omega (arith, c.loop-place.invariant.counted, long) in
    let first = first_left c.args.messages.items s.iter.a.a.rest.items _ s.count c.in-Some.message c.loop-place.invariant.left steps.0.0.0.0 within in
    ap (λ k. get_or c.args.entries.now k false) steps.1
    ∙ flag_at c.args.messages.items c.args.entries.now s.count c.in-Some.message false c.requires.entries within first.0

pub loop-place-preserved : goal.loop-place-preserved
loop-place-preserved c =
    let s = c.loop-place.place-iterator in
    let t = c.next.new.self in
    let before = c.loop-place.invariant in
    let steps = c.in-Some.ensures.steps in
    let m = c.in-Some.message in
    let es = c.in-Some.extensions in
    let v = c.in-Some.own in
    let long = ap (λ (ms : List FlatMessage). length ms) steps.0.0.0.0 in
    let wide = ap (λ (ls : List (Vec FieldTable Global)). length ls) steps.0.0.1.0 in
    let deep = ap (λ (ns : List (Vec Meaning Global)). length ns) steps.0.1.0 in
    let within : s.count < length c.args.messages.items = omega (arith, before.counted, long) in
    let first = first_left c.args.messages.items s.iter.a.a.rest.items t.iter.a.a.rest.items s.count m before.left steps.0.0.0.0 within in
    let fields : map field_row c.in_ok-fields.fields.items ≡ all_meant (map definition_row m.fields.items) (map meaning_row v.items) (map field_row es.items) =
    c.in_ok-fields.ensures
    ∙ (ap (λ (ds : List (Definition FieldDescriptorProto)). all_meant (map definition_row ds) (map meaning_row c.as_slice-in-loop-place.result.now) (map field_row es.items)) c.as_slice.ensures.value
    ∙ ap (λ (ns : List Meaning). all_meant (map definition_row m.fields.items) (map meaning_row ns) (map field_row es.items)) c.as_slice-in-loop-place.ensures.value) in
    let made = c.in_ok-linked_message.ensures ∙ ap (λ (fs : List FieldRow). linked_message fs (flat_views.message_row m)) fields in
    let tables = map rows.message_row c.loop-place.tables.items in
    record {
      counted = omega (arith, before.counted, long, steps.2);
      paired = omega (arith, before.paired, long, wide);
      meant = omega (arith, before.meant, long, deep);
      left = first.1 ∙ ap (λ k. drop k c.args.messages.items) (sym steps.2);
      same =
          message_more c.loop-place.tables.items c.in_ok-linked_message.field-0 c.push.new.self.items es t.iter.a.b.rest.items v t.iter.b.rest.items m t.iter.a.a.rest.items c.in_ok-push.ensures.items made
          ∙ (ap (λ (ls : List (Vec FieldTable Global)). tables ++ messages_meant (list_rows ls) (meaning_lists (v ∷ t.iter.b.rest.items)) (map flat_views.message_row (m ∷ t.iter.a.a.rest.items))) (sym steps.0.0.1.0)
          ∙ (ap (λ (ms : List FlatMessage). tables ++ messages_meant (list_rows s.iter.a.b.rest.items) (meaning_lists (v ∷ t.iter.b.rest.items)) (map flat_views.message_row ms)) (sym steps.0.0.0.0)
          ∙ (ap (λ (ns : List (Vec Meaning Global)). tables ++ messages_meant (list_rows s.iter.a.b.rest.items) (meaning_lists ns) (map flat_views.message_row s.iter.a.a.rest.items)) (sym steps.0.1.0)
          ∙ before.same)));
    }

pub returns : goal.returns
returns c =
    let s = c.loop-place.place-iterator in
    let before = c.loop-place.invariant in
    let tables = map rows.message_row c.loop-place.tables.items in
    let ended : length s.iter.a.b.rest.items ≡ 0 =
    ⊎_elim (λ first. ⊎_elim (λ z. omega (arith, z.1.0, s.iter.a.a.rest.ok.0, before.paired)) (λ z. omega (arith, z.1.0, s.iter.a.b.rest.ok.0)) first.1)
    (λ z. omega (arith, z.1.0, s.iter.b.rest.ok.0, before.paired, before.meant)) c.in-None.ensures.steps.0 in
    sym (append-nil tables)
    ∙ (ap (λ (ls : List (Vec FieldTable Global)). tables ++ messages_meant (list_rows ls) (meaning_lists s.iter.b.rest.items) (map flat_views.message_row s.iter.a.a.rest.items)) (sym (nil_from_length s.iter.a.b.rest.items ended))
    ∙ before.same)
