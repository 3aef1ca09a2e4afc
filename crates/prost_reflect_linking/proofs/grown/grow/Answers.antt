use Rattle.std.specs.Prelude.{◌≡◌, slice_set}
use Rattle.std.proofs.lemmas.List.{map-set}
use Rattle.std.proofs.lemmas.Option.{same_Some, slice_get-map, slice_get_read}
use Rattle.prost_reflect_linking.proofs.Common.{List, length, map, refl, sym, ap, ◌∙◌, FieldRow, field_row}
use Rattle.prost_reflect_growth.proofs.RowsGrow.{further_ordered}
use Rattle.prost_reflect_growth.specs.RowsGrow.{grown_message}
use Rattle.prost_reflect_tables.specs.Rows.{message_row}
use Rattle.prost_reflect_tables.specs.declared.tables.FieldTable.{FieldTable}
use Rattle.std.specs.Option.{option_map}
use Rattle.prost_reflect_linking.proofs.grown.grow.Goals as goal

pub returns : goal.returns
returns c = λ m at.
    let old = c.args.messages.now in
    let more = map field_row c.args.more.items in
    let found = slice_get_read old (length old) c.args.place c.index.result.now refl c.requires c.index.ensures in
    let was : message_row c.index.result.now ≡ m = same_Some (message_row c.index.result.now) m (sym (slice_get-map message_row old c.args.place ∙ ap (option_map message_row) found) ∙ at) in
    let sorted : message_row c.in_ok-row.row ≡ grown_message more (message_row c.index.result.now) =
    c.in_ok-row.ensures
    ∙ (ap (λ (fs : List FieldTable). grown_message (map field_row fs) (message_row c.index.result.now)) c.as_slice.ensures.value
    ∙ (ap (λ (fs : List FieldRow). grown_message fs (message_row c.index.result.now)) c.in_ok-sort_by_number.ensures.sorted
    ∙ further_ordered more (message_row c.index.result.now))) in
    ap (map message_row) c.in_ok-set.ensures.ok
    ∙ (map-set message_row old c.args.place c.in_ok-row.row
    ∙ ap (slice_set (map message_row old) c.args.place) (sorted ∙ ap (grown_message more) was))
