-- Each place that the catalog of files names is there, and so is what encloses a row.
use Rattle.std.specs.Prelude.{◌≡◌, ◌+◌, ◌<◌, ◌≤◌, ◌∷◌}
use Rattle.prost_reflect_tables.proofs.Common.{ℕ, zero, suc, Bool, true, false, not, cond, List, [], map, length, Option, Some, None, unwrap_or, refl, sym, ap, ◌∙◌, subst, arith, slice_get, nat_le, All, length-map, All-nil, All-cons, All-head, All-tail, All-append, All-map, All-filter, get_or_from_slice_get, slice_get_within, same_Some, FieldDescriptorProto, FileDescriptorProto, IdentityRow, FieldRow, MessageRow, EnumRow, TableRows, fields_at, fields_or_none, DefinitionRow, FlatMessageRow, FlatEnumRow, FlatServiceRow, FlatRows, flattened, file_names, message_names, enum_names, names_of, Links, links_of, belonging, linked_field, put_in_order, in_order, extended_place, fields_of_message, declared_fields, linked_message, messages_from, linked_value, value_number, linked_enum, linked_rows, places_from, places_where, all_places, pairs_at, pairs_from, all_pairs, list_at, FileRow, MessageListsRow, EnumListsRow, ServiceRow, SortedRow, CatalogRows, catalog_row, Catalog, AreTablesOf, each_from, linked_file, field_names, json_names, own_fields, linked_lists, ordered, enum_lists, linked_service, value_names, value_places, value_full_name, sorted_places, service_names, linked_extension, linked_catalog, IsCatalogOf}
use Rattle.prost_reflect_tables.specs.Orders.{put_by, sorted_by, text_at, text_before, number_before}
use Rattle.prost_reflect_tables.proofs.Built.{linked_of}
use Rattle.prost_reflect_tables.proofs.FlatRanges.{StandsWithin, FieldWithin, MessageWithin, EnumWithin, ServiceWithin, flattened_within}
use Rattle.prost_reflect_tables.proofs.Gathering.{pairs_shown}
use Rattle.prost_reflect_tables.proofs.Linkwell.Items.{messages_length}
use Rattle.prost_reflect_tables.proofs.CatalogLinks.{mapped_at}

-- LISTS

pub places_below : {X : Type 0} (test : X → Bool) (i n : ℕ) (xs : List X) → i + length xs ≤ n → All (λ p. p < n) (places_from test i xs)
places_below test i n [] h = All-nil (λ (p : ℕ). p < n)
places_below {X} test i n (x ∷ xs) h = go (test x) (omega arith) (places_below test (i + 1) n xs (omega arith))
  where
    go : (b : Bool) → i < n → All (λ p. p < n) (places_from test (i + 1) xs) → All (λ p. p < n) (cond b (i ∷ places_from test (i + 1) xs) (places_from test (i + 1) xs))
    go true here more = All-cons (λ (p : ℕ). p < n) i (places_from test (i + 1) xs) here more
    go false here more = more

-- What holds of each item holds of them in order.
put_all : {X : Type 0} (P : X → Type 0) (before : X → X → Bool) (x : X) (ys : List X) → P x → All P ys → All P (put_by before x ys)
put_all P before x [] p h = All-cons P x [] p h
put_all {X} P before x (y ∷ ys) p h = go (before y x) (All-head P y ys h) (put_all P before x ys p (All-tail P y ys h))
  where
    go : (b : Bool) → P y → All P (put_by before x ys) → All P (cond b (y ∷ put_by before x ys) (x ∷ y ∷ ys))
    go true q more = All-cons P y (put_by before x ys) q more
    go false q more = All-cons P x (y ∷ ys) p h

pub order_all : {X : Type 0} (P : X → Type 0) (before : X → X → Bool) (xs : List X) → All P xs → All P (sorted_by before xs)
order_all P before [] h = h
order_all P before (x ∷ xs) h = put_all P before x (sorted_by before xs) (All-head P x xs h) (order_all P before xs (All-tail P x xs h))

pub ordered_below : {X : Type 0} (before : ℕ → ℕ → Bool) (test : X → Bool) (n : ℕ) (xs : List X) → length xs ≡ n → All (λ p. p < n) (sorted_by before (places_where test xs))
ordered_below before test n xs size = order_all (λ (p : ℕ). p < n) before (places_where test xs) (places_below test 0 n xs (omega arith))

pub texts_below : (n : ℕ) (texts : List (List ℕ)) → length texts ≡ n → All (λ p. p < n) (ordered texts)
texts_below n texts size = ordered_below (text_before (text_at texts)) (λ x. true) n texts size

-- The item of the pair is there.
abbrev pub IsInside : {X : Type 0} → List (List X) → ℕ × ℕ → Type 0
IsInside lists p = p.1 < length (list_at lists p.0)

pairs_within : {X : Type 0} (whole : List (List X)) (i : ℕ) (lists : List (List X)) → ((k : ℕ) → slice_get whole (i + k) ≡ slice_get lists k) → All (IsInside whole) (pairs_from i lists)
pairs_within whole i [] h = All-nil (IsInside whole)
pairs_within {X} whole i (xs ∷ lists) h =
    let at : slice_get whole i ≡ Some xs = ap (slice_get whole) (omega arith) ∙ h 0 in
    let size : length xs ≡ length (list_at whole i) = ap (λ (o : Option (List X)). length (unwrap_or o [])) (sym at) in
    All-append (IsInside whole) (pairs_at i xs) (pairs_from (i + 1) lists)
    (All-map (IsInside whole) (λ (place : ℕ). (i, place)) (all_places xs) (places_below (λ (x : X). true) 0 (length (list_at whole i)) xs (omega (arith, size))))
    (pairs_within whole (i + 1) lists (λ k. ap (slice_get whole) (omega arith) ∙ h (suc k)))

pub pairs_inside : {X : Type 0} (lists : List (List X)) → All (IsInside lists) (all_pairs lists)
pairs_inside lists = pairs_within lists 0 lists (λ k. ap (slice_get lists) (omega arith))

pub holds_at : {X : Type 0} (P : X → Type 0) (xs : List X) (k : ℕ) (x : X) → All P xs → slice_get xs k ≡ Some x → P x
holds_at P xs k x h found = subst P (get_or_from_slice_get xs k x x found) (h k x (slice_get_within xs k x found))

pub each_length : {X Y : Type 0} (f : ℕ → X → Y) (i : ℕ) (xs : List X) → length (each_from f i xs) ≡ length xs
each_length f i [] = refl
each_length f i (x ∷ xs) = ap suc (each_length f (i + 1) xs)

-- What holds of what any item gives anywhere holds of each.
each_all : {X Y : Type 0} (P : Y → Type 0) (f : ℕ → X → Y) (i : ℕ) (xs : List X) → ((j : ℕ) (x : X) → P (f j x)) → All P (each_from f i xs)
each_all P f i [] h = All-nil P
each_all P f i (x ∷ xs) h = All-cons P (f i x) (each_from f (i + 1) xs) (h i x) (each_all P f (i + 1) xs h)

-- What stands at a place is what the item there gives.
pub each_at : {X Y : Type 0} (f : ℕ → X → Y) (i : ℕ) (xs : List X) (k n : ℕ) (y : Y) → i + k ≡ n → slice_get (each_from f i xs) k ≡ Some y → (x : X) × (slice_get xs k ≡ Some x) × (f n x ≡ y)
each_at f i [] k n y at found = cc
each_at f i (x ∷ xs) zero n y at found = let e : n ≡ i = omega arith in (x, refl, ap (λ (j : ℕ). f j x) e ∙ same_Some (f i x) y found)
each_at f i (x ∷ xs) (suc k) n y at found = each_at f (i + 1) xs k n y (omega arith) found

-- ROWS

abbrev pub IdentityWithin : ℕ → ℕ → IdentityRow → Type 0
IdentityWithin F M id = StandsWithin F M id.file id.parent

abbrev pub FieldRowWithin : ℕ → ℕ → FieldRow → Type 0
FieldRowWithin F M f = IdentityWithin F M f.id

pub record MessageRowWithin (F M : ℕ) (m : MessageRow) : Type 0 where
  pub id : IdentityWithin F M m.id
  pub fields : All (FieldRowWithin F M) m.fields

abbrev pub EnumRowWithin : ℕ → ℕ → EnumRow → Type 0
EnumRowWithin F M e = IdentityWithin F M e.id

abbrev pub ServiceRowWithin : ℕ → ℕ → ServiceRow → Type 0
ServiceRowWithin F M s = IdentityWithin F M s.id

put_in_order_all : (P : FieldRow → Type 0) (f : FieldRow) (fields : List FieldRow) → P f → All P fields → All P (put_in_order f fields)
put_in_order_all P f [] p h = All-cons P f [] p h
put_in_order_all P f (g ∷ fields) p h = go (nat_le f.number g.number) (All-head P g fields h) (put_in_order_all P f fields p (All-tail P g fields h))
  where
    go : (b : Bool) → P g → All P (put_in_order f fields) → All P (cond b (f ∷ g ∷ fields) (g ∷ put_in_order f fields))
    go true q more = All-cons P f (g ∷ fields) p h
    go false q more = All-cons P g (put_in_order f fields) q more

pub in_order_all : (P : FieldRow → Type 0) (fields : List FieldRow) → All P fields → All P (in_order fields)
in_order_all P [] h = h
in_order_all P (f ∷ fields) h = put_in_order_all P f (in_order fields) (All-head P f fields h) (in_order_all P fields (All-tail P f fields h))

fields_linked : (F M : ℕ) (links : Links) (is_extension : Bool) (ds : List (DefinitionRow FieldDescriptorProto)) → All (FieldWithin F M) ds → All (FieldRowWithin F M) (map (linked_field links is_extension) ds)
unfolding linked_field
fields_linked F M links is_extension ds h = All-map (FieldRowWithin F M) (linked_field links is_extension) ds h

message_linked : (F M : ℕ) (fields : List FieldRow) (m : FlatMessageRow) → MessageWithin F M m → All (FieldRowWithin F M) fields → MessageRowWithin F M (linked_message fields m)
unfolding linked_message
message_linked F M fields m h all = record { id = h.definition; fields = in_order_all (FieldRowWithin F M) fields all }

messages_linked : (F M : ℕ) (links : Links) (extensions : List (DefinitionRow FieldDescriptorProto)) (T : ℕ) (ms : List FlatMessageRow) → All (FieldWithin F M) extensions → All (MessageWithin F M) ms →
    All (MessageRowWithin F M) (messages_from links extensions T ms)
messages_linked F M links extensions T [] xs h = All-nil (MessageRowWithin F M)
messages_linked F M links extensions T (m ∷ ms) xs h =
    let own = All-head (MessageWithin F M) m ms h in
    let extending = belonging (extended_place links) extensions T in
    let fields = All-append (FieldRowWithin F M) (declared_fields links m.fields) (map (linked_field links true) extending)
    (fields_linked F M links false m.fields own.fields)
    (fields_linked F M links true extending (All-filter _ (FieldWithin F M) extensions xs)) in
    All-cons (MessageRowWithin F M) (linked_message (fields_of_message links extensions T m) m) (messages_from links extensions (T + 1) ms)
    (message_linked F M (fields_of_message links extensions T m) m own fields)
    (messages_linked F M links extensions (T + 1) ms xs (All-tail (MessageWithin F M) m ms h))

-- So does each field and each extension of a message.
pub field_within : (F M T i : ℕ) (rows : TableRows) (f : FieldRow) → All (MessageRowWithin F M) rows.messages → slice_get (fields_at rows T) i ≡ Some f → FieldRowWithin F M f
field_within F M T i rows f h found = of (slice_get rows.messages T) refl found
  where
    of : (o : Option MessageRow) → slice_get rows.messages T ≡ o → slice_get (fields_or_none o) i ≡ Some f → FieldRowWithin F M f
    of None at found = cc
    of (Some m) at found = holds_at (FieldRowWithin F M) m.fields i f (holds_at (MessageRowWithin F M) rows.messages T m h at).fields found

enums_linked : (F M : ℕ) (es : List FlatEnumRow) → All (EnumWithin F M) es → All (EnumRowWithin F M) (map linked_enum es)
enums_linked F M es h = All-map (EnumRowWithin F M) linked_enum es h

services_linked : (F M : ℕ) (links : Links) (ss : List FlatServiceRow) → All (ServiceWithin F M) ss → All (ServiceRowWithin F M) (map (linked_service links) ss)
services_linked F M links ss h = All-map (ServiceRowWithin F M) (linked_service links) ss h

-- ALL OF IT

pub record FileRowWithin (rows : TableRows) (catalog : CatalogRows) (f : FileRow) : Type 0 where
  pub messages : All (λ i. i < length rows.messages) f.messages
  pub enums : All (λ i. i < length rows.enums) f.enums
  pub extensions : All (λ i. i < length catalog.extensions) f.extensions
  pub services : All (λ i. i < length catalog.services) f.services

-- The lists of the message at the place T.
pub record ListsWithin (rows : TableRows) (catalog : CatalogRows) (T : ℕ) (m : MessageListsRow) : Type 0 where
  pub messages : All (λ i. i < length rows.messages) m.messages
  pub enums : All (λ i. i < length rows.enums) m.enums
  pub extensions : All (λ i. i < length catalog.extensions) m.extensions
  pub extending : All (λ i. i < length catalog.extensions) m.extending
  pub fields : m.fields ≡ own_fields (fields_at rows T)
  pub by_name : All (λ i. i < length (fields_at rows T)) m.by_name
  pub by_json_name : All (λ i. i < length (fields_at rows T)) m.by_json_name

-- Those of an enum of so many values.
pub record EnumListsWithin (n : ℕ) (e : EnumListsRow) : Type 0 where
  pub by_name : All (λ i. i < n) e.by_name
  pub by_number : All (λ i. i < n) e.by_number

-- The places of all, where there are so many files.
pub record SortedWithin (F : ℕ) (rows : TableRows) (catalog : CatalogRows) (s : SortedRow) : Type 0 where
  pub files : All (λ i. i < F) s.files
  pub messages : All (λ i. i < length rows.messages) s.messages
  pub enums : All (λ i. i < length rows.enums) s.enums
  pub extensions : All (λ i. i < length catalog.extensions) s.extensions
  pub services : All (λ i. i < length catalog.services) s.services
  pub values : All (IsInside (map (λ e. e.values) rows.enums)) s.values

pub record CatalogWithin (files : List FileDescriptorProto) (rows : TableRows) (catalog : CatalogRows) : Type 0 where
  pub file_count : length catalog.files ≡ length files
  pub message_count : length catalog.messages ≡ length rows.messages
  pub enum_count : length catalog.enums ≡ length rows.enums
  pub messages : All (MessageRowWithin (length files) (length rows.messages)) rows.messages
  pub enums : All (EnumRowWithin (length files) (length rows.messages)) rows.enums
  pub services : All (ServiceRowWithin (length files) (length rows.messages)) catalog.services
  pub file_rows : All (FileRowWithin rows catalog) catalog.files
  pub lists : (T : ℕ) (m : MessageListsRow) → slice_get catalog.messages T ≡ Some m → ListsWithin rows catalog T m
  pub enum_lists : (E : ℕ) (e : EnumListsRow) (r : EnumRow) → slice_get catalog.enums E ≡ Some e → slice_get rows.enums E ≡ Some r → EnumListsWithin (length r.values) e
  pub by_name : SortedWithin (length files) rows catalog catalog.by_name

file_row_within : (rows : TableRows) (catalog : CatalogRows) (names : List (List ℕ)) (flat : FlatRows) (F : ℕ) (f : FileDescriptorProto) →
    length flat.messages ≡ length rows.messages → length flat.enums ≡ length rows.enums → length flat.extensions ≡ length catalog.extensions → length flat.services ≡ length catalog.services →
    FileRowWithin rows catalog (linked_file names flat F f)
file_row_within rows catalog names flat F f m e x s = record {
  messages = places_below _ 0 (length rows.messages) flat.messages (omega arith);
  enums = places_below _ 0 (length rows.enums) flat.enums (omega arith);
  extensions = places_below _ 0 (length catalog.extensions) flat.extensions (omega arith);
  services = places_below _ 0 (length catalog.services) flat.services (omega arith);
}

lists_within : (rows : TableRows) (catalog : CatalogRows) (flat : FlatRows) (T : ℕ) (m : MessageRow) →
    length flat.messages ≡ length rows.messages → length flat.enums ≡ length rows.enums → length flat.extensions ≡ length catalog.extensions → slice_get rows.messages T ≡ Some m →
    ListsWithin rows catalog T (linked_lists flat T m)
lists_within rows catalog flat T m ms es xs at =
    let count : length m.fields ≡ length (fields_at rows T) = ap (λ (o : Option MessageRow). length (fields_or_none o)) (sym at) in
    record {
      messages = places_below _ 0 (length rows.messages) flat.messages (omega arith);
      enums = places_below _ 0 (length rows.enums) flat.enums (omega arith);
      extensions = places_below _ 0 (length catalog.extensions) flat.extensions (omega arith);
      extending = places_below _ 0 (length catalog.extensions) flat.extensions (omega arith);
      fields = ap (λ (o : Option MessageRow). own_fields (fields_or_none o)) (sym at);
      by_name = ordered_below (text_before (text_at (field_names m.fields))) (λ f. not f.is_extension) (length (fields_at rows T)) m.fields count;
      by_json_name = ordered_below (text_before (text_at (json_names m.fields))) (λ f. not f.is_extension) (length (fields_at rows T)) m.fields count;
    }

enum_lists_within : (e : FlatEnumRow) → EnumListsWithin (length (linked_enum e).values) (enum_lists e)
enum_lists_within e = record {
  by_name = texts_below (length (linked_enum e).values) (value_names e.values) (length-map e.values _ ∙ sym (length-map e.values linked_value));
  by_number = ordered_below (number_before (map value_number e.values)) (λ z. true) (length (linked_enum e).values) (map value_number e.values) (length-map e.values value_number ∙ sym (length-map e.values linked_value));
}

-- The values of linked enums stand where those of the enums do.
pub values_linked : (rows : TableRows) (flat : FlatRows) → rows.enums ≡ map linked_enum flat.enums → all_pairs (map (λ e. e.values) rows.enums) ≡ value_places flat
values_linked rows flat linked =
    ap (λ (es : List EnumRow). all_pairs (map (λ (e : EnumRow). e.values) es)) linked
    ∙ pairs_shown linked_enum (λ (e : FlatEnumRow). e.values) (λ (e : EnumRow). e.values) linked_value (λ e. refl) 0 flat.enums

values_within : (rows : TableRows) (flat : FlatRows) → rows.enums ≡ map linked_enum flat.enums → All (IsInside (map (λ e. e.values) rows.enums)) (sorted_by (text_before (value_full_name flat)) (value_places flat))
values_within rows flat linked =
    let P : ℕ × ℕ → Type 0 = IsInside (map (λ (e : EnumRow). e.values) rows.enums) in
    order_all P (text_before (value_full_name flat)) (value_places flat) (subst (All P) (values_linked rows flat linked) (pairs_inside (map (λ (e : EnumRow). e.values) rows.enums)))

sorted_within : (files : List FileDescriptorProto) (rows : TableRows) (catalog : CatalogRows) (flat : FlatRows) →
    length flat.messages ≡ length rows.messages → rows.enums ≡ map linked_enum flat.enums → length flat.extensions ≡ length catalog.extensions → length flat.services ≡ length catalog.services →
    SortedWithin (length files) rows catalog (sorted_places files flat)
sorted_within files rows catalog flat m linked x s = record {
  files = texts_below (length files) (file_names files) (length-map files _);
  messages = texts_below (length rows.messages) (message_names flat) (length-map flat.messages _ ∙ m);
  enums = texts_below (length rows.enums) (enum_names flat) (length-map flat.enums _ ∙ (sym (length-map flat.enums linked_enum) ∙ ap (λ (es : List EnumRow). length es) (sym linked)));
  extensions = texts_below (length catalog.extensions) (names_of flat.extensions) (length-map flat.extensions _ ∙ x);
  services = texts_below (length catalog.services) (service_names flat) (length-map flat.services _ ∙ s);
  values = values_within rows flat linked;
}

linked_within : (files : List FileDescriptorProto) → CatalogWithin files (linked_rows (flattened files)) (linked_catalog files (flattened files))
linked_within files =
    let flat = flattened files in
    let links = links_of flat in
    let rows = linked_rows flat in
    let catalog = linked_catalog files flat in
    let m : length flat.messages ≡ length rows.messages = sym (messages_length links flat.extensions 0 flat.messages) in
    let e : length flat.enums ≡ length rows.enums = sym (length-map flat.enums linked_enum) in
    let x : length flat.extensions ≡ length catalog.extensions = sym (length-map flat.extensions (linked_extension links rows)) in
    let s : length flat.services ≡ length catalog.services = sym (length-map flat.services (linked_service links)) in
    let within = flattened_within files (length rows.messages) m in
    record {
      file_count = each_length (linked_file (file_names files) flat) 0 files;
      message_count = each_length (linked_lists flat) 0 rows.messages;
      enum_count = length-map flat.enums enum_lists ∙ e;
      messages = messages_linked (length files) (length rows.messages) links flat.extensions 0 flat.messages within.extensions within.messages;
      enums = enums_linked (length files) (length rows.messages) flat.enums within.enums;
      services = services_linked (length files) (length rows.messages) links flat.services within.services;
      file_rows = each_all (FileRowWithin rows catalog) (linked_file (file_names files) flat) 0 files (λ F f. file_row_within rows catalog (file_names files) flat F f m e x s);
      lists = λ T l found. let row = each_at (linked_lists flat) 0 rows.messages T T l (omega arith) found in
          subst (ListsWithin rows catalog T) row.2 (lists_within rows catalog flat T row.0 m e x row.1);
      enum_lists = λ E l r found at. let flat_row = mapped_at enum_lists flat.enums E l found in
          let table = mapped_at linked_enum flat.enums E r at in
          let same : flat_row.0 ≡ table.0 = same_Some _ _ (sym flat_row.1 ∙ table.1) in
          subst (λ (n : ℕ). EnumListsWithin n l) (ap (λ (f : FlatEnumRow). length (linked_enum f).values) same ∙ ap (λ (r : EnumRow). length r.values) table.2)
          (subst (λ (l : EnumListsRow). EnumListsWithin (length (linked_enum flat_row.0).values) l) flat_row.2 (enum_lists_within flat_row.0));
      by_name = sorted_within files rows catalog flat m refl x s;
    }

-- What the catalog of files names is there.
pub catalog_within : (files : List FileDescriptorProto) (rows : TableRows) (catalog : Catalog) → AreTablesOf files rows → IsCatalogOf files catalog → CatalogWithin files rows (catalog_row catalog)
unfolding IsCatalogOf
catalog_within files rows catalog built listed =
    subst (λ (c : CatalogRows). CatalogWithin files rows c) (sym listed)
    (subst (λ (r : TableRows). CatalogWithin files r (linked_catalog files (flattened files))) (sym (linked_of files rows built)) (linked_within files))
