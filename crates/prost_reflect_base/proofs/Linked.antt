-- What a pool has linked, beside the definitions of its files in flat lists.
use Rattle.std.specs.Prelude.{◌≡◌, ◌+◌, ◌∷◌}
use Rattle.std.specs.Prelude.{option_map, slice_get, unwrap_or}
use Rattle.std.specs.Option.{option_and_then}
use Rattle.std.specs.Str.{bytes_eq}
use Rattle.std.proofs.Common.{ℕ, ℤ, zero, suc, Bool, false, List, [], get_or, length, map, Option, Some, None, refl, sym, ap, ◌∙◌, arith}
use Rattle.std.proofs.lemmas.List.{length-map}
use Rattle.std.proofs.lemmas.Option.{same_Some, slice_get-map}
use Rattle.prost_reflect_types.specs.declared.DescriptorProto.{DescriptorProto}
use Rattle.prost_reflect_types.specs.declared.DescriptorProto.TheViews.{out-DescriptorProto}
use Rattle.prost_reflect_types.specs.declared.ExtensionRange.{ExtensionRange}
use Rattle.prost_reflect_types.specs.declared.FieldDescriptorProto.{FieldDescriptorProto}
use Rattle.prost_reflect_types.specs.declared.FileDescriptorProto.{FileDescriptorProto}
use Rattle.prost_reflect_tables.specs.CatalogRows.{CatalogRows}
use Rattle.prost_reflect_tables.specs.EntryFaults.{is_entry_message}
use Rattle.prost_reflect_tables.specs.Faults.{message_names, enum_names, names_of}
use Rattle.prost_reflect_tables.specs.Flat.{DefinitionRow, FlatMessageRow, FlatEnumRow, FlatRows, MessageParts, flattened}
use Rattle.prost_reflect_tables.specs.LinkedCatalog.{linked_catalog, linked_extension, linked_service, service_names}
use Rattle.prost_reflect_tables.specs.LinkedCatalog.{IsCatalogOf}
use Rattle.prost_reflect_tables.specs.Linking.{Links, links_of, fields_of_message, linked_enum, linked_rows, linked_value, messages_from}
use Rattle.prost_reflect_tables.specs.Linking.{linked_message}
use Rattle.prost_reflect_tables.specs.Rows.{EnumValueRow, FieldRow, MessageRow, TableRows, enum_row, enum_value_row}
use Rattle.prost_reflect_tables.specs.declared.tables.EnumTable.{EnumTable}
use Rattle.prost_reflect_tables.specs.declared.tables.EnumValueTable.{EnumValueTable}
use Rattle.prost_reflect_tables.specs.WrittenDefaults.{number_named}
use Rattle.prost_reflect_tables.proofs.CatalogLinks.{ExtensionThere}
use Rattle.prost_reflect_tables.proofs.CatalogRanges.{holds_at}
use Rattle.prost_reflect_pool.specs.Enums.{values_at, values_or_none}
use Rattle.prost_reflect_pool.specs.Lookups.{extension_name, full_name_or_empty, named_value}
use Rattle.prost_reflect_pool.specs.Pools.{files_of, pool_catalog, pool_rows}
use Rattle.prost_reflect_pool.specs.RecordPaths.{MessageRecord, record_in, record_of}
use Rattle.prost_reflect_pool.specs.declared.pool.LinkedPool.{LinkedPool}
use Rattle.prost_reflect_pool.proofs.InCatalog.{enum_name, linked_name, linked_names, map_twice, service_name}
use Rattle.prost_reflect_pool.proofs.InCatalog as catalog
use Rattle.prost_reflect_pool.proofs.PoolLinks.{extension_of, row_in}
use Rattle.prost_reflect_pool.proofs.RecordPaths.{NamedMessage, flattened_named, led}
use Rattle.prost_reflect_base.proofs.Lists.{found_nowhere, found_there, place_within}

abbrev pub flat_of : LinkedPool → FlatRows
flat_of pool = flattened (files_of pool)

pub rows_are : (pool : LinkedPool) → pool_rows pool ≡ linked_rows (flat_of pool)
rows_are pool = pool.built.1

pub catalog_is : (pool : LinkedPool) → pool_catalog pool ≡ linked_catalog (files_of pool) (flat_of pool)
unfolding IsCatalogOf
catalog_is pool = pool.listed

-- HOW MANY

messages_linked : (links : Links) (extensions : List (DefinitionRow FieldDescriptorProto)) (T : ℕ) (ms : List FlatMessageRow) → length (messages_from links extensions T ms) ≡ length ms
messages_linked links extensions T [] = refl
messages_linked links extensions T (m ∷ ms) = ap suc (messages_linked links extensions (T + 1) ms)

pub message_count : (pool : LinkedPool) → length (pool_rows pool).messages ≡ length (flat_of pool).messages
message_count pool = ap (λ (r : TableRows). length r.messages) (rows_are pool) ∙ messages_linked (links_of (flat_of pool)) (flat_of pool).extensions 0 (flat_of pool).messages

pub enum_count : (pool : LinkedPool) → length (pool_rows pool).enums ≡ length (flat_of pool).enums
enum_count pool = ap (λ (r : TableRows). length r.enums) (rows_are pool) ∙ length-map (flat_of pool).enums linked_enum

pub extension_count : (pool : LinkedPool) → length (pool_catalog pool).extensions ≡ length (flat_of pool).extensions
extension_count pool =
    ap (λ (c : CatalogRows). length c.extensions) (catalog_is pool) ∙ length-map (flat_of pool).extensions (linked_extension (links_of (flat_of pool)) (linked_rows (flat_of pool)))

pub service_count : (pool : LinkedPool) → length (pool_catalog pool).services ≡ length (flat_of pool).services
service_count pool = ap (λ (c : CatalogRows). length c.services) (catalog_is pool) ∙ length-map (flat_of pool).services (linked_service (links_of (flat_of pool)))

-- FULL NAMES

pub messages_named : (pool : LinkedPool) → map catalog.message_name (pool_rows pool).messages ≡ message_names (flat_of pool)
messages_named pool = ap (λ (r : TableRows). map catalog.message_name r.messages) (rows_are pool) ∙ linked_names (links_of (flat_of pool)) (flat_of pool).extensions 0 (flat_of pool).messages

pub enums_named : (pool : LinkedPool) → map enum_name (pool_rows pool).enums ≡ enum_names (flat_of pool)
enums_named pool = ap (λ (r : TableRows). map enum_name r.enums) (rows_are pool) ∙ map_twice enum_name linked_enum (flat_of pool).enums

pub services_named : (pool : LinkedPool) → map service_name (pool_catalog pool).services ≡ service_names (flat_of pool)
services_named pool = ap (λ (c : CatalogRows). map service_name c.services) (catalog_is pool) ∙ map_twice service_name (linked_service (links_of (flat_of pool))) (flat_of pool).services

same_items : {X Y : Type 0} (f g : X → Y) (xs : List X) → ((i : ℕ) (x : X) → slice_get xs i ≡ Some x → f x ≡ g x) → map f xs ≡ map g xs
same_items f g [] h = refl
same_items f g (x ∷ xs) h = rw (h 0 x refl, same_items f g xs (λ i y at. h (suc i) y at)) refl

pub extensions_named : (pool : LinkedPool) → map (extension_name (pool_rows pool)) (pool_catalog pool).extensions ≡ names_of (flat_of pool).extensions
extensions_named pool =
    let flat = flat_of pool in
    let link = linked_extension (links_of flat) (linked_rows flat) in
    ap (λ (c : CatalogRows). map (extension_name (pool_rows pool)) c.extensions) (catalog_is pool)
    ∙ (map_twice (extension_name (pool_rows pool)) link flat.extensions
    ∙ same_items (λ (d : DefinitionRow FieldDescriptorProto). extension_name (pool_rows pool) (link d)) (λ (d : DefinitionRow FieldDescriptorProto). d.full_name) flat.extensions (λ i d at.
    let stands : slice_get (pool_catalog pool).extensions i ≡ Some (link d) = ap (λ (c : CatalogRows). slice_get c.extensions i) (catalog_is pool) ∙ (slice_get-map link flat.extensions i ∙ ap (option_map link) at) in
    let there : ExtensionThere flat (pool_rows pool) i (link d) = extension_of pool i (link d) stands in
    let same : there.definition ≡ d = same_Some there.definition d (sym there.declared ∙ at) in
    ap full_name_or_empty there.at ∙ (linked_name (links_of flat) there.definition ∙ ap (λ (r : DefinitionRow FieldDescriptorProto). r.full_name) same)))

-- WHAT STANDS AT A PLACE

abbrev linked_at : Links → List (DefinitionRow FieldDescriptorProto) → ℕ → FlatMessageRow → MessageRow
linked_at links extensions T m = linked_message (fields_of_message links extensions T m) m

linked_from : (links : Links) (extensions : List (DefinitionRow FieldDescriptorProto)) (T : ℕ) (ms : List FlatMessageRow) (k : ℕ) → slice_get (messages_from links extensions T ms) k ≡ option_map (linked_at links extensions (T + k)) (slice_get ms k)
linked_from links extensions T [] k = refl
linked_from links extensions T (m ∷ ms) zero = ap (λ U. Some (linked_at links extensions U m)) (omega arith)
linked_from links extensions T (m ∷ ms) (suc k) = linked_from links extensions (T + 1) ms k ∙ ap (λ U. option_map (linked_at links extensions U) (slice_get ms k)) (omega arith)

-- The row of a message is that of its definition at its place.
pub message_at : (pool : LinkedPool) (T : ℕ) → slice_get (pool_rows pool).messages T ≡ option_map (linked_at (links_of (flat_of pool)) (flat_of pool).extensions T) (slice_get (flat_of pool).messages T)
message_at pool T =
    ap (λ (r : TableRows). slice_get r.messages T) (rows_are pool)
    ∙ (linked_from (links_of (flat_of pool)) (flat_of pool).extensions 0 (flat_of pool).messages T ∙ ap (λ U. option_map (linked_at (links_of (flat_of pool)) (flat_of pool).extensions U) (slice_get (flat_of pool).messages T)) (omega arith))

-- ENTRIES

entry_row : Option MessageRow → Bool
entry_row None = false
entry_row (Some m) = m.is_map_entry

entry_linked : (links : Links) (extensions : List (DefinitionRow FieldDescriptorProto)) (T : ℕ) (o : Option FlatMessageRow) → entry_row (option_map (linked_at links extensions T) o) ≡ is_entry_message o
unfolding entry_row linked_message
entry_linked links extensions T None = refl
entry_linked links extensions T (Some m) = refl

entry_is : (pool : LinkedPool) (T : ℕ) (o : Option MessageRow) → slice_get (pool_rows pool).messages T ≡ o → entry_row o ≡ is_entry_message (slice_get (flat_of pool).messages T)
entry_is pool T o at = ap entry_row (sym at ∙ message_at pool T) ∙ entry_linked (links_of (flat_of pool)) (flat_of pool).extensions T (slice_get (flat_of pool).messages T)

pub entry_there : (pool : LinkedPool) (T : ℕ) (m : MessageRow) → slice_get (pool_rows pool).messages T ≡ Some m → m.is_map_entry ≡ is_entry_message (slice_get (flat_of pool).messages T)
unfolding entry_row
entry_there pool T m at = entry_is pool T (Some m) at

pub no_entry : (pool : LinkedPool) (T : ℕ) → slice_get (pool_rows pool).messages T ≡ None → false ≡ is_entry_message (slice_get (flat_of pool).messages T)
unfolding entry_row
no_entry pool T at = entry_is pool T None at

-- EXTENSION RANGES

abbrev ranges_of : FlatMessageRow → List ExtensionRange
ranges_of m = m.definition.proto.extension_range

same_record : (a b : DescriptorProto) → MessageRecord a ≡ MessageRecord b → a ≡ b
same_record a b h = cc

ranges_led : (files : List FileDescriptorProto) (all : List FieldRow) (m : FlatMessageRow) (r : DescriptorProto) → NamedMessage files m → record_of files (linked_message all m).id ≡ Some (MessageRecord r) → Some (out-DescriptorProto r).extension_range.items ≡ Some (ranges_of m)
unfolding linked_message
ranges_led files all m r named found =
    let there : record_in files m.definition.file m.definition.path ≡ Some (MessageRecord named.message) = led files m.definition.file m.definition.path (MessageRecord named.message) named.leads in
    let same : r ≡ named.message = same_record r named.message (same_Some (MessageRecord r) (MessageRecord named.message) (sym found ∙ there)) in
    ap (λ (d : DescriptorProto). Some (out-DescriptorProto d).extension_range.items) same ∙ ap (λ (p : MessageParts). Some p.extension_range) (sym named.parts)

-- The record of a message has the ranges of its definition.
pub ranges_there : (pool : LinkedPool) (T : ℕ) (r : DescriptorProto) → option_and_then (λ (m : MessageRow). record_of (files_of pool) m.id) (slice_get (pool_rows pool).messages T) ≡ Some (MessageRecord r) →
    Some (out-DescriptorProto r).extension_range.items ≡ option_map ranges_of (slice_get (flat_of pool).messages T)
ranges_there pool T r found = of (slice_get (flat_of pool).messages T) refl (ap (option_and_then (λ (m : MessageRow). record_of (files_of pool) m.id)) (sym (message_at pool T)) ∙ found)
  where
    of : (o : Option FlatMessageRow) → slice_get (flat_of pool).messages T ≡ o → option_and_then (λ (m : MessageRow). record_of (files_of pool) m.id) (option_map (linked_at (links_of (flat_of pool)) (flat_of pool).extensions T) o) ≡ Some (MessageRecord r) →
        Some (out-DescriptorProto r).extension_range.items ≡ option_map ranges_of o
    of None at e = absurd cc
    of (Some m) at e = ranges_led (files_of pool) (fields_of_message (links_of (flat_of pool)) (flat_of pool).extensions T m) m r (holds_at (NamedMessage (files_of pool)) (flat_of pool).messages T m (flattened_named (files_of pool)).messages at) e

pub no_ranges : (pool : LinkedPool) (T : ℕ) → slice_get (pool_rows pool).messages T ≡ None → None ≡ option_map ranges_of (slice_get (flat_of pool).messages T)
no_ranges pool T none = of (slice_get (flat_of pool).messages T) (sym (message_at pool T) ∙ none)
  where
    of : (o : Option FlatMessageRow) → option_map (linked_at (links_of (flat_of pool)) (flat_of pool).extensions T) o ≡ None → None ≡ option_map ranges_of o
    of None e = refl
    of (Some m) e = absurd cc

-- VALUES

abbrev values_of : FlatEnumRow → List EnumValueRow
values_of e = map linked_value e.values

values_of_row : (o : Option FlatEnumRow) → values_or_none (option_map linked_enum o) ≡ unwrap_or (option_map values_of o) []
values_of_row None = refl
values_of_row (Some e) = refl

abbrev is_named : List ℕ → EnumValueRow → Bool
is_named name v = bytes_eq v.id.name name

abbrev number_of : EnumValueRow → ℤ
number_of v = v.number

-- The rows of an enum's values are what its definition links to.
values_linked : (pool : LinkedPool) (E : ℕ) → values_at (pool_rows pool) E ≡ unwrap_or (slice_get (links_of (flat_of pool)).values E) []
values_linked pool E =
    ap values_or_none (ap (λ (r : TableRows). slice_get r.enums E) (rows_are pool) ∙ slice_get-map linked_enum (flat_of pool).enums E)
    ∙ (values_of_row (slice_get (flat_of pool).enums E) ∙ sym (ap (λ (o : Option (List EnumValueRow)). unwrap_or o []) (slice_get-map values_of (flat_of pool).enums E)))

-- The number of the first value of a name is that of its row.
pub value_there : (pool : LinkedPool) (E i : ℕ) (name : List ℕ) (e : EnumTable) (v : EnumValueTable) → Some i ≡ named_value (values_at (pool_rows pool) E) name → slice_get (pool_rows pool).enums E ≡ Some (enum_row e) → v ≡ get_or e.values.items i v →
    Some v.number ≡ number_named (unwrap_or (slice_get (links_of (flat_of pool)).values E) []) name
value_there pool E i name e v found at read =
    let rows = values_at (pool_rows pool) E in
    let here : rows ≡ map enum_value_row e.values.items = ap values_or_none at in
    let row : slice_get rows i ≡ Some (enum_value_row v) = row_in enum_value_row e.values.items rows i v (sym here) (place_within (is_named name) rows i (sym found)) read in
    sym (ap (option_map number_of) (found_there (is_named name) rows i (sym found) ∙ row)) ∙ ap (λ values. number_named values name) (values_linked pool E)

pub no_value : (pool : LinkedPool) (E : ℕ) (name : List ℕ) → None ≡ named_value (values_at (pool_rows pool) E) name → None ≡ number_named (unwrap_or (slice_get (links_of (flat_of pool)).values E) []) name
no_value pool E name e = sym (ap (option_map number_of) (found_nowhere (is_named name) (values_at (pool_rows pool) E) (sym e))) ∙ ap (λ values. number_named values name) (values_linked pool E)
