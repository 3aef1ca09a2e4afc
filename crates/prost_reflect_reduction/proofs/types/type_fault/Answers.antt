use Rattle.std.specs.Prelude.{◌≡◌, ◌<◌}
use Rattle.prost_reflect_reduction.proofs.Common.{List, length, map, Option, ap₂, sym, ◌∙◌, subst, arith, list_all, length-map, message_type, oneof_in_range, FieldTable, FieldRow, field_row, message_row, schema_of, merge_fault, Explains, shown_fields}
use Rattle.prost_reflect_reduction.specs.declared.fault.TypeFault.{TypeFault}
use Rattle.prost_reflect_reduction.proofs.Noting.{fields_explained, entries_explained, oneofs_linked}
use Rattle.prost_reflect_reduction.proofs.types.type_fault.Goals as goal

pub returns-then-not-entries_whole-clause-fault : goal.returns-then-not-entries_whole-clause-fault
returns-then-not-entries_whole-clause-fault c =
    let low : c.args.older_place < length c.args.older.now.messages = omega (arith, c.requires.older, length-map c.args.older.now.messages message_row) in
    let low' : c.args.newer_place < length c.args.newer.now.messages = omega (arith, c.requires.newer, length-map c.args.newer.now.messages message_row) in
    entries_explained c.args.older.now c.args.newer.now c.args.older_place c.args.newer_place c.index-message.result.now c.index-other.result.now low c.index-message.ensures low' c.index-other.ensures (sym c.entries_whole.ensures ∙ c.if-not-entries_whole.true)

pub next_members-requires : goal.next_members-requires
next_members-requires c =
    let low : c.args.older_place < length c.args.older.now.messages = omega (arith, c.requires.older, length-map c.args.older.now.messages message_row) in
    let many : c.len.result ≡ length c.index-message.result.now.oneofs.items = omega (arith, c.len.ensures, c.index-message.result.now.oneofs.ok.0) in
    ap₂ (λ n (fs : List FieldTable). list_all (λ (f : FieldRow). oneof_in_range n f.oneof) (map field_row fs)) many c.deref.ensures.value ∙
    oneofs_linked c.args.older.now c.args.older_place c.index-message.result.now c.args.older.now.linked low c.index-message.ensures

pub next_members-requires-2 : goal.next_members-requires-2
next_members-requires-2 c =
    let low' : c.args.newer_place < length c.args.newer.now.messages = omega (arith, c.requires.newer, length-map c.args.newer.now.messages message_row) in
    let many : c.len-2.result ≡ length c.index-other.result.now.oneofs.items = omega (arith, c.len-2.ensures, c.index-other.result.now.oneofs.ok.0) in
    ap₂ (λ n (fs : List FieldTable). list_all (λ (f : FieldRow). oneof_in_range n f.oneof) (map field_row fs)) many c.deref-2.ensures.value ∙
    oneofs_linked c.args.newer.now c.args.newer_place c.index-other.result.now c.args.newer.now.linked low' c.index-other.ensures

pub returns-clause-fault : goal.returns-clause-fault
returns-clause-fault c =
    let low : c.args.older_place < length c.args.older.now.messages = omega (arith, c.requires.older, length-map c.args.older.now.messages message_row) in
    let low' : c.args.newer_place < length c.args.newer.now.messages = omega (arith, c.requires.newer, length-map c.args.newer.now.messages message_row) in
    subst (λ (o : Option TypeFault). Explains o (message_type (schema_of c.args.older.now) c.args.older_place) (message_type (schema_of c.args.newer.now) c.args.newer_place)) (sym c.type_fault_of.ensures)
    (fields_explained c.args.older.now c.args.newer.now c.args.older_place c.args.newer_place c.index-message.result.now c.index-other.result.now c.args.older.now.linked c.args.newer.now.linked low c.index-message.ensures low' c.index-other.ensures
    (sym c.entries_whole.ensures ∙ c.if-not-entries_whole.false) c.in_ok-fault.fault
    (c.in_ok-fault.ensures.fault ∙ ap₂ (λ (xs ys : List FieldTable). merge_fault (shown_fields c.args.older.now xs) (shown_fields c.args.newer.now ys)) c.deref-3.ensures.value c.deref-5.ensures.value))
