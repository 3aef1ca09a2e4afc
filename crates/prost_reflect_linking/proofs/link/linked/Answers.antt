use Rattle.std.specs.Prelude.{◌≡◌, ◌-◌, ◌++◌}
use Rattle.std.specs.List.{list_all, zip}
use Rattle.std.proofs.Common.{ap₂}
use Rattle.std.proofs.lemmas.List.{map-append}
use Rattle.prost_reflect_linking.proofs.Common.{true, List, ℕ, arith, ap, sym, ◌∙◌, map, length, length-map, FieldRow, DefinitionRow, definition_row, message_row, enum_row, each_from, flat_rows, links_of, linked_enum, grouped, empty_lists, all_rows}
use Rattle.prost_reflect_base.specs.Below.{rows_below, tables_below}
use Rattle.prost_reflect_base.specs.declared.base.Base.{Base}
use Rattle.prost_reflect_growth.specs.RowsGrow.{further, grown_message, added_messages}
use Rattle.prost_reflect_linking.proofs.Listed.{all_both, grown_alike, linked_long}
use Rattle.prost_reflect_linking.proofs.Paired.{Pair, extendee_of, pairs_of, extensions_long, meant_each, meant_lists, all_linked}
use Rattle.prost_reflect_linking.specs.Grown.{listed_count}
use Rattle.prost_reflect_linking.specs.Meanings.{MeaningRow, field_meant, meaning_lists, meaning_row, meant, messages_meant}
use Rattle.prost_reflect_pool.specs.Pools.{pool_rows}
use Rattle.prost_reflect_tables.specs.InRange.{enum_in_range}
use Rattle.prost_reflect_tables.specs.Linking.{messages_from}
use Rattle.prost_reflect_tables.specs.Resolved.{resolve}
use Rattle.prost_reflect_tables.specs.Rows as rows
use Rattle.prost_reflect_tables.specs.Rows.{EnumRow, MessageRow, TableRows}
use Rattle.prost_reflect_flat.specs.declared.definitions.Definition.{Definition}
use Rattle.prost_reflect_flat.specs.declared.definitions.FlatEnum.{FlatEnum}
use Rattle.prost_reflect_types.specs.declared.FieldDescriptorProto.{FieldDescriptorProto}
use Rattle.prost_reflect_linking.proofs.link.linked.Goals as goal

-- A pool has as many rows of message types as message types.
counted : (base : Base) → length (tables_below base).messages ≡ length (rows_below base).messages
counted base =
    let old = rows_below base in
    ap (λ (r : TableRows). length r.messages) base.pool.now.built.1 ∙ linked_long (links_of old) old.extensions 0 old.messages

pub linked_messages-requires-clause-extensions : goal.linked_messages-requires-clause-extensions
linked_messages-requires-clause-extensions c =
    let pairs = zip (map definition_row c.as_slice-definitions.result.now) (map meaning_row c.args.extensions.now) in
    let long = extensions_long pairs c.message_count-count.result c.len.result c.in_ok-added.added.items c.in_ok-added.ensures in
    omega (arith, long, c.len.ensures, c.args.flat.messages.ok.0)

pub grown_messages-requires : goal.grown_messages-requires
grown_messages-requires c =
    let count = c.message_count-count.result in
    let listed = c.listed_count-listed.result in
    let pairs = zip (map definition_row c.as_slice-definitions.result.now) (map meaning_row c.args.extensions.now) in
    let long = extensions_long pairs (count - listed) listed c.in_ok-front.front.items c.in_ok-front.ensures in
    omega (arith, long, c.listed_count-listed.ensures.bound, c.message_count-count.ensures, counted c.args.base)

pub returns-clause-rows : goal.returns-clause-rows
returns-clause-rows c =
    let base = c.args.base in
    let flat = c.args.flat in
    let old = rows_below base in
    let new = flat_rows flat in
    let links = links_of (all_rows base new) in
    let there = tables_below base in
    let count = c.message_count-count.result in
    let listed = c.listed_count-listed.result in
    let pairs = pairs_of links new.extensions in
    let lists : ℕ → ℕ → List Pair → List (List FieldRow) = λ i n ps. grouped extendee_of (field_meant true) ps i (empty_lists n) in
    let means : map meaning_row c.args.extensions.now ≡ map (λ (d : DefinitionRow FieldDescriptorProto). meant (resolve links d)) new.extensions =
    c.requires.extensions ∙ meant_each links new.extensions in
    let paired : zip (map definition_row c.as_slice-definitions.result.now) (map meaning_row c.args.extensions.now) ≡ pairs =
    ap (λ (ds : List (Definition FieldDescriptorProto)). zip (map definition_row ds) (map meaning_row c.args.extensions.now)) c.as_slice-definitions.ensures.value
    ∙ ap (λ (ms : List MeaningRow). zip new.extensions ms) means in
    let front = c.in_ok-front.ensures ∙ ap (lists (count - listed) listed) paired in
    let many = extensions_long pairs (count - listed) listed c.in_ok-front.front.items front in
    let long : length there.messages ≡ count = counted base ∙ sym c.message_count-count.ensures in
    let size : c.len.result ≡ length new.messages = omega (arith, c.len.ensures, flat.messages.ok.0, length-map flat.messages.items message_row) in
    let added = c.in_ok-added.ensures ∙ (ap (lists count c.len.result) paired ∙ ap (λ (n : ℕ). lists count n pairs) size) in
    let grown : map rows.message_row c.in_ok-messages.messages ≡ each_from (λ T m. grown_message (further old new T) m) 0 there.messages =
    c.in_ok-messages.ensures
    ∙ grown_alike old new there.messages c.in_ok-front.front.items count listed long many (c.listed_count-listed.ensures.count ∙ ap (listed_count count) means) front in
    let made : map rows.message_row c.in_ok-linked_messages.field-0.items ≡ added_messages old new =
    c.in_ok-linked_messages.ensures
    ∙ (ap (λ (es : List (List FieldRow)). messages_meant es (meaning_lists c.args.fields.items) new.messages) added
    ∙ (ap (λ (nss : List (List MeaningRow)). messages_meant (lists count (length new.messages) pairs) nss new.messages) (c.requires.fields ∙ meant_lists links new.messages)
    ∙ (all_linked links new.extensions count new.messages
    ∙ ap (λ (n : ℕ). messages_from links new.extensions n new.messages) c.message_count-count.ensures))) in
    let enums : map rows.enum_row c.in_ok-enums.enums ≡ there.enums =
    ap (map rows.enum_row) c.in_ok-enums.ensures.cases ∙ ap (λ (r : TableRows). r.enums) (c.tables.ensures ∙ ap pool_rows c.pool.ensures) in
    let linked : map rows.enum_row c.in_ok-linked_enums.field-0.items ≡ map linked_enum new.enums =
    c.in_ok-linked_enums.ensures.rows ∙ ap (λ (es : List FlatEnum). map linked_enum (map enum_row es)) c.as_slice.ensures.value in
    ap₂ (λ (ms : List MessageRow) (es : List EnumRow). record { messages = ms; enums = es })
    (ap (map rows.message_row) c.in_ok-append.ensures
    ∙ (map-append rows.message_row c.in_ok-messages.messages c.in_ok-linked_messages.field-0.items ∙ ap₂ (λ (a b : List MessageRow). a ++ b) grown made))
    (ap (map rows.enum_row) c.in_ok-append-2.ensures
    ∙ (map-append rows.enum_row c.in_ok-enums.enums c.in_ok-linked_enums.field-0.items ∙ ap₂ (λ (a b : List EnumRow). a ++ b) enums linked))

pub returns-clause-range : goal.returns-clause-range
returns-clause-range c =
    let base = c.args.base in
    let enums : map rows.enum_row c.in_ok-enums.enums ≡ (tables_below base).enums =
    ap (map rows.enum_row) c.in_ok-enums.ensures.cases ∙ ap (λ (r : TableRows). r.enums) (c.tables.ensures ∙ ap pool_rows c.pool.ensures) in
    ap (list_all enum_in_range)
    (ap (map rows.enum_row) c.in_ok-append-2.ensures ∙ map-append rows.enum_row c.in_ok-enums.enums c.in_ok-linked_enums.field-0.items)
    ∙ all_both enum_in_range (map rows.enum_row c.in_ok-enums.enums) (map rows.enum_row c.in_ok-linked_enums.field-0.items)
    (ap (list_all enum_in_range) enums ∙ base.pool.now.ranged) c.in_ok-linked_enums.ensures.range
