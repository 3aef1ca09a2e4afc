-- What the catalog of linked tables puts in order, by the rows of the tables.
use Rattle.std.specs.Prelude.{◌≡◌, ◌+◌, ◌<◌, ◌≤◌, ◌∷◌}
use Rattle.prost_reflect_pool.proofs.Common.{ℕ, zero, suc, true, List, [], map, length, get_or, Option, Some, None, refl, sym, ap, subst, ◌∙◌, arith, slice_get, unwrap_or, option_map, same_Some, slice_get-map, slice_get-get_or, slice_get_past, FileDescriptorProto, FieldDescriptorProto, FieldRow, MessageRow, EnumRow, EnumValueRow, TableRows, DefinitionRow, FlatMessageRow, FlatEnumRow, flattened, text_or_empty, file_names, message_names, enum_names, names_of, Links, links_of, linked_message, messages_from, linked_field, linked_value, linked_enum, value_number, linked_rows, MessageListsRow, EnumListsRow, ServiceRow, CatalogRows, catalog_row, IsCatalogOf, each_from, linked_lists, enum_lists, linked_extension, linked_service, value_names, field_names, json_names, own_fields, ordered, is_linked, number_at, sorted_by, text_before, text_in, by_text, by_number, all_places, fields_or_none, fields_at, values_or_none, values_at, full_name_or_empty, extension_name, extension_there, value_places, values_linked, ℤ, pos}
use Rattle.prost_reflect_tables.specs.declared.catalog.Catalog.{Catalog}
use Rattle.prost_reflect_tables.specs.Built.{AreTablesOf}
use Rattle.prost_reflect_tables.specs.LinkedCatalog.{value_places as flat_places}

-- NUMBERS OF ROWS

pub number_there : {X Y : Type 0} (row : X → Y) (number : Y → ℤ) (xs : List X) (i : ℕ) (x : X) → i < length xs → x ≡ get_or xs i x → number (row x) ≡ number_at (map number (map row xs)) i
number_there {X} row number xs i x h is =
    let at : slice_get xs i ≡ Some x = slice_get-get_or xs i x h ∙ ap Some (sym is) in
    sym (ap (λ o. unwrap_or o (pos 0)) (slice_get-map number (map row xs) i ∙ ap (option_map number) (slice_get-map row xs i ∙ ap (option_map row) at)))

pub no_number : {X Y : Type 0} (row : X → Y) (number : Y → ℤ) (xs : List X) (i : ℕ) → length xs ≤ i → pos 0 ≡ number_at (map number (map row xs)) i
no_number row number xs i h = sym (ap (λ o. unwrap_or o (pos 0)) (slice_get-map number (map row xs) i ∙ ap (option_map number) (slice_get-map row xs i ∙ ap (option_map row) (slice_get_past xs i h))))

-- FULL NAMES

abbrev pub message_name : MessageRow → List ℕ
message_name m = m.id.full_name

pub linked_names : (links : Links) (extensions : List (DefinitionRow FieldDescriptorProto)) (T : ℕ) (ms : List FlatMessageRow) → map message_name (messages_from links extensions T ms) ≡ map (λ m. m.definition.full_name) ms
unfolding linked_message
linked_names links extensions T [] = refl
linked_names links extensions T (m ∷ ms) = ap (λ names. m.definition.full_name ∷ names) (linked_names links extensions (T + 1) ms)

pub message_order : (files : List FileDescriptorProto) (rows : TableRows) (catalog : Catalog) → AreTablesOf files rows → IsCatalogOf files catalog → catalog.by_name.messages ≡ ordered (map message_name rows.messages)
unfolding IsCatalogOf
message_order files rows catalog built listed =
    let flat = flattened files in
    let names : map message_name rows.messages ≡ message_names flat = ap (λ (r : TableRows). map message_name r.messages) built.1 ∙ linked_names (links_of flat) flat.extensions 0 flat.messages in
    ap (λ (c : CatalogRows). c.by_name.messages) listed ∙ ap ordered (sym names)

abbrev pub enum_name : EnumRow → List ℕ
enum_name e = e.id.full_name

abbrev pub service_name : ServiceRow → List ℕ
service_name s = s.id.full_name

pub map_twice : {X Y Z : Type 0} (f : Y → Z) (g : X → Y) (xs : List X) → map f (map g xs) ≡ map (λ x. f (g x)) xs
map_twice f g [] = refl
map_twice f g (x ∷ xs) = ap (λ l. f (g x) ∷ l) (map_twice f g xs)

pub enum_order : (files : List FileDescriptorProto) (rows : TableRows) (catalog : Catalog) → AreTablesOf files rows → IsCatalogOf files catalog → catalog.by_name.enums ≡ ordered (map enum_name rows.enums)
unfolding IsCatalogOf
enum_order files rows catalog built listed =
    let flat = flattened files in
    let names : map enum_name rows.enums ≡ enum_names flat = ap (λ (r : TableRows). map enum_name r.enums) built.1 ∙ map_twice enum_name linked_enum flat.enums in
    ap (λ (c : CatalogRows). c.by_name.enums) listed ∙ ap ordered (sym names)

pub service_order : (files : List FileDescriptorProto) (catalog : Catalog) → IsCatalogOf files catalog → catalog.by_name.services ≡ ordered (map service_name (catalog_row catalog).services)
unfolding IsCatalogOf
service_order files catalog listed =
    let flat = flattened files in
    ap (λ (c : CatalogRows). c.by_name.services) listed ∙ ap ordered (sym (ap (λ (c : CatalogRows). map service_name c.services) listed ∙ map_twice service_name (linked_service (links_of flat)) flat.services))

abbrev pub file_name : FileDescriptorProto → List ℕ
file_name f = text_or_empty f.name

pub file_order : (files : List FileDescriptorProto) (catalog : Catalog) → IsCatalogOf files catalog → catalog.by_name.files ≡ ordered (file_names files)
unfolding IsCatalogOf
file_order files catalog listed = ap (λ (c : CatalogRows). c.by_name.files) listed

abbrev pub value_full_name : EnumValueRow → List ℕ
value_full_name v = v.id.full_name

-- Those of the values of each enum.
abbrev pub value_full_names : List EnumRow → List (List (List ℕ))
value_full_names enums = map (λ (e : EnumRow). map value_full_name e.values) enums

names_linked : (enums : List FlatEnumRow) → value_full_names (map linked_enum enums) ≡ map (λ (e : FlatEnumRow). names_of e.values) enums
names_linked [] = refl
names_linked (e ∷ enums) =
    ap (λ (names : List (List ℕ)). names ∷ value_full_names (map linked_enum enums)) (map_twice value_full_name linked_value e.values)
    ∙ ap (λ (lists : List (List (List ℕ))). names_of e.values ∷ lists) (names_linked enums)

pub value_order : (files : List FileDescriptorProto) (rows : TableRows) (catalog : Catalog) → AreTablesOf files rows → IsCatalogOf files catalog → catalog.by_name.values ≡ sorted_by (text_before (text_in (value_full_names rows.enums))) (value_places rows)
unfolding IsCatalogOf
value_order files rows catalog built listed =
    let flat = flattened files in
    let linked : rows.enums ≡ map linked_enum flat.enums = ap (λ (r : TableRows). r.enums) built.1 in
    let names : value_full_names rows.enums ≡ map (λ (e : FlatEnumRow). names_of e.values) flat.enums = ap value_full_names linked ∙ names_linked flat.enums in
    let places : value_places rows ≡ flat_places flat = values_linked rows flat linked in
    ap (λ (c : CatalogRows). c.by_name.values) listed
    ∙ (ap (λ (ps : List (ℕ × ℕ)). sorted_by (text_before (text_in (map (λ (e : FlatEnumRow). names_of e.values) flat.enums))) ps) (sym places)
    ∙ ap (λ (ns : List (List (List ℕ))). sorted_by (text_before (text_in ns)) (value_places rows)) (sym names))

-- FIELDS

each_at : {X Y : Type 0} (f : ℕ → X → Y) (i : ℕ) (xs : List X) (k : ℕ) → slice_get (each_from f i xs) k ≡ option_map (f (i + k)) (slice_get xs k)
each_at f i [] k = refl
each_at f i (x ∷ xs) zero = ap (λ j. Some (f j x)) (omega arith)
each_at f i (x ∷ xs) (suc k) = each_at f (i + 1) xs k ∙ ap (λ j. option_map (f j) (slice_get xs k)) (omega arith)

pub record InOrder (fields : List FieldRow) (lists : MessageListsRow) : Type 0 where
  pub by_name : lists.by_name ≡ by_text (field_names fields) (own_fields fields)
  pub by_json_name : lists.by_json_name ≡ by_text (json_names fields) (own_fields fields)

pub lists_order : (files : List FileDescriptorProto) (rows : TableRows) (catalog : Catalog) (T : ℕ) (lists : MessageListsRow) → AreTablesOf files rows → IsCatalogOf files catalog → slice_get (catalog_row catalog).messages T ≡ Some lists → InOrder (fields_at rows T) lists
unfolding IsCatalogOf
lists_order files rows catalog T lists built listed at =
    let flat = flattened files in
    let linked : slice_get (catalog_row catalog).messages T ≡ option_map (linked_lists flat (0 + T)) (slice_get rows.messages T) = ap (λ (c : CatalogRows). slice_get c.messages T) listed ∙ (each_at (linked_lists flat) 0 (linked_rows flat).messages T ∙ ap (λ (r : TableRows). option_map (linked_lists flat (0 + T)) (slice_get r.messages T)) (sym built.1)) in
    of_row (linked_lists flat (0 + T)) (slice_get rows.messages T) (sym at ∙ linked) (λ m. refl) (λ m. refl)
  where
    of_row : (f : MessageRow → MessageListsRow) (o : Option MessageRow) → Some lists ≡ option_map f o → ((m : MessageRow) → (f m).by_name ≡ by_text (field_names m.fields) (own_fields m.fields)) → ((m : MessageRow) → (f m).by_json_name ≡ by_text (json_names m.fields) (own_fields m.fields)) → InOrder (fields_or_none o) lists
    of_row f None e n j = cc
    of_row f (Some m) e n j =
        let same : lists ≡ f m = cc in
        record { by_name = ap (λ (l : MessageListsRow). l.by_name) same ∙ n m; by_json_name = ap (λ (l : MessageListsRow). l.by_json_name) same ∙ j m }

-- VALUES

abbrev pub value_name : EnumValueRow → List ℕ
value_name v = v.id.name

abbrev pub number_of : EnumValueRow → ℤ
number_of v = v.number

pub record ValuesInOrder (values : List EnumValueRow) (lists : EnumListsRow) : Type 0 where
  pub by_name : lists.by_name ≡ ordered (map value_name values)
  pub by_number : lists.by_number ≡ by_number (map number_of values) (all_places (map number_of values))

pub values_order : (files : List FileDescriptorProto) (rows : TableRows) (catalog : Catalog) (E : ℕ) (lists : EnumListsRow) → AreTablesOf files rows → IsCatalogOf files catalog → slice_get (catalog_row catalog).enums E ≡ Some lists → ValuesInOrder (values_at rows E) lists
unfolding IsCatalogOf
values_order files rows catalog E lists built listed at =
    let flat = flattened files in
    let linked : slice_get (catalog_row catalog).enums E ≡ option_map enum_lists (slice_get flat.enums E) = ap (λ (c : CatalogRows). slice_get c.enums E) listed ∙ slice_get-map enum_lists flat.enums E in
    let there : option_map linked_enum (slice_get flat.enums E) ≡ slice_get rows.enums E = sym (slice_get-map linked_enum flat.enums E) ∙ ap (λ (r : TableRows). slice_get r.enums E) (sym built.1) in
    subst (λ (o : Option EnumRow). ValuesInOrder (values_or_none o) lists) there (of_enum (slice_get flat.enums E) (sym at ∙ linked))
  where
    of_enum : (o : Option FlatEnumRow) → Some lists ≡ option_map enum_lists o → ValuesInOrder (values_or_none (option_map linked_enum o)) lists
    of_enum None e = cc
    of_enum (Some f) e =
        let same : lists ≡ enum_lists f = cc in
        let names : value_names f.values ≡ map value_name (map linked_value f.values) = sym (map_twice value_name linked_value f.values) in
        let numbers : map value_number f.values ≡ map number_of (map linked_value f.values) = sym (map_twice number_of linked_value f.values) in
        record {
          by_name = ap (λ (l : EnumListsRow). l.by_name) same ∙ ap ordered names;
          by_number = ap (λ (l : EnumListsRow). l.by_number) same ∙ ap (λ (ns : List ℤ). by_number ns (all_places ns)) numbers;
        }

-- EXTENSIONS

same_items : {X Y : Type 0} (f g : X → Y) (xs : List X) → ((i : ℕ) (x : X) → slice_get xs i ≡ Some x → f x ≡ g x) → map f xs ≡ map g xs
same_items f g [] h = refl
same_items f g (x ∷ xs) h = rw (h 0 x refl, same_items f g xs (λ i y at. h (suc i) y at)) refl

pub linked_name : (links : Links) (d : DefinitionRow FieldDescriptorProto) → (linked_field links true d).id.full_name ≡ d.full_name
unfolding linked_field
linked_name links d = refl

pub extension_order : (files : List FileDescriptorProto) (rows : TableRows) (catalog : Catalog) → AreTablesOf files rows → is_linked rows ≡ true → IsCatalogOf files catalog → catalog.by_name.extensions ≡ ordered (map (extension_name rows) (catalog_row catalog).extensions)
unfolding IsCatalogOf
extension_order files rows catalog built linked listed =
    let flat = flattened files in
    let link = linked_extension (links_of flat) (linked_rows flat) in
    let named : (i : ℕ) (d : DefinitionRow FieldDescriptorProto) → slice_get flat.extensions i ≡ Some d → d.full_name ≡ extension_name rows (link d) = (λ i d at.
    let stands : slice_get (catalog_row catalog).extensions i ≡ Some (link d) = ap (λ (c : CatalogRows). slice_get c.extensions i) listed ∙ (slice_get-map link flat.extensions i ∙ ap (option_map link) at) in
    let there = extension_there files rows catalog i (link d) built linked listed stands in
    let same : there.definition ≡ d = same_Some there.definition d (sym there.declared ∙ at) in
    sym (ap full_name_or_empty there.at ∙ (linked_name (links_of flat) there.definition ∙ ap (λ (r : DefinitionRow FieldDescriptorProto). r.full_name) same))) in
    let names : map (λ (d : DefinitionRow FieldDescriptorProto). d.full_name) flat.extensions ≡ map (extension_name rows) (catalog_row catalog).extensions =
    same_items (λ (d : DefinitionRow FieldDescriptorProto). d.full_name) (λ (d : DefinitionRow FieldDescriptorProto). extension_name rows (link d)) flat.extensions named
    ∙ (sym (map_twice (extension_name rows) link flat.extensions) ∙ sym (ap (λ (c : CatalogRows). map (extension_name rows) c.extensions) listed)) in
    ap (λ (c : CatalogRows). c.by_name.extensions) listed ∙ ap ordered names
