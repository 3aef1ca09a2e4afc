-- The parts of the catalog of files that pass all checks, where files are added.
use Rattle.std.specs.Prelude.{◌≡◌, ℕ, ◌+◌, ◌≤◌, true, List, [], ◌∷◌, ◌++◌, length, map, nat_lt, slice_get, Some}
use Rattle.prost_reflect_types.specs.declared.FileDescriptorProto.{FileDescriptorProto}
use Rattle.prost_reflect_tables.specs.CatalogRows.{FileRow, MessageListsRow}
use Rattle.prost_reflect_tables.specs.Rows.{MessageRow}
use Rattle.prost_reflect_tables.specs.Flat.{FlatRows, behind, flattened, is_proto3}
use Rattle.prost_reflect_tables.specs.Faults.{file_names}
use Rattle.prost_reflect_tables.specs.Checked.{Checked}
use Rattle.prost_reflect_tables.specs.Linked.{is_linked}
use Rattle.prost_reflect_tables.specs.Gathered.{places_from}
use Rattle.prost_reflect_tables.specs.LinkedCatalog.{each_from, top_file, dependency_places, import_at, field_names, json_names, own_fields, linked_lists, enum_lists, linked_service, linked_catalog}
use Rattle.prost_reflect_tables.specs.Linking.{is_place, links_of, linked_rows, extended_place}
use Rattle.prost_reflect_tables.specs.Orders.{by_text}
use Rattle.prost_reflect_growth.specs.Growth.{added_rows}
use Rattle.prost_reflect_growth.specs.RowsGrow.{grown_message, further, added_messages}

-- FILES AND SERVICES

-- Where an added file's definitions stand, behind the old ones.
abbrev pub added_file : List (List ℕ) → (old new : FlatRows) → ℕ → FileDescriptorProto → FileRow
added_file names old new F f = record {
  messages = places_from (λ m. is_place F (top_file m.definition)) (length old.messages) new.messages;
  enums = places_from (λ e. is_place F (top_file e.definition)) (length old.enums) new.enums;
  extensions = places_from (λ d. is_place F (top_file d)) (length old.extensions) new.extensions;
  services = places_from (λ s. is_place F (top_file s.definition)) (length old.services) new.services;
  dependencies = dependency_places names f;
  public_dependencies = map (import_at (dependency_places names f)) f.public_dependency.items;
  is_proto3 = is_proto3 f;
}

abbrev pub FilesGrow : Type 0
FilesGrow =
    (files added : List FileDescriptorProto) → Checked files (flattened files) →
    let old = flattened files in let new = added_rows files added in
    (linked_catalog (files ++ added) (behind old new)).files
    ≡ (linked_catalog files old).files ++ each_from (added_file (file_names (files ++ added)) old new) (length files) added

abbrev pub ServicesGrow : Type 0
ServicesGrow =
    (files added : List FileDescriptorProto) → Checked files (flattened files) →
    let old = flattened files in let new = added_rows files added in
    (linked_catalog (files ++ added) (behind old new)).services
    ≡ (linked_catalog files old).services ++ map (linked_service (links_of (behind old new))) new.services

-- THE LISTS OF MESSAGES

-- The places of added extensions of the message at a place.
abbrev pub further_places : (old new : FlatRows) → ℕ → List ℕ
further_places old new T =
    places_from (λ d. is_place T (extended_place (links_of (behind old new)) d)) (length old.extensions) new.extensions

-- An old message encloses what it did, and is extended by the added extensions, too; what is looked up in it goes by its row.
abbrev pub grown_lists : (old new : FlatRows) → ℕ → MessageRow → MessageListsRow → MessageListsRow
grown_lists old new T m lists = record {
  messages = lists.messages;
  enums = lists.enums;
  extensions = lists.extensions;
  extending = lists.extending ++ further_places old new T;
  fields = own_fields m.fields;
  by_name = by_text (field_names m.fields) (own_fields m.fields);
  by_json_name = by_text (json_names m.fields) (own_fields m.fields);
}

-- The lists of the old message at a place.
abbrev pub ListsGrow : Type 0
ListsGrow =
    (files added : List FileDescriptorProto) (T : ℕ) (before after : MessageRow) → Checked files (flattened files) →
    let old = flattened files in let new = added_rows files added in
    nat_lt T (length old.messages) ≡ true → linked_lists (behind old new) T after ≡ grown_lists old new T after (linked_lists old T before)

-- They are what they were, where no added extension extends the message.
abbrev pub ListsStay : Type 0
ListsStay =
    (old new : FlatRows) (T : ℕ) (m : MessageRow) → slice_get (linked_rows old).messages T ≡ Some m → further old new T ≡ [] →
    grown_lists old new T (grown_message (further old new T) m) (linked_lists old T m) ≡ linked_lists old T m

-- An added message encloses added definitions alone, and added extensions alone extend it.
abbrev pub added_lists : (old new : FlatRows) → ℕ → MessageRow → MessageListsRow
added_lists old new T m = record {
  messages = places_from (λ c. is_place T c.definition.parent) (length old.messages) new.messages;
  enums = places_from (λ e. is_place T e.definition.parent) (length old.enums) new.enums;
  extensions = places_from (λ d. is_place T d.parent) (length old.extensions) new.extensions;
  extending = further_places old new T;
  fields = own_fields m.fields;
  by_name = by_text (field_names m.fields) (own_fields m.fields);
  by_json_name = by_text (json_names m.fields) (own_fields m.fields);
}

abbrev pub ListsAdded : Type 0
ListsAdded =
    (files added : List FileDescriptorProto) (T : ℕ) (m : MessageRow) → Checked files (flattened files) →
    let old = flattened files in let new = added_rows files added in
    length old.messages ≤ T → linked_lists (behind old new) T m ≡ added_lists old new T m

-- Those of old messages from their rows and their lists; the first message is at the place.
abbrev pub grown_lists_from : (old new : FlatRows) → ℕ → List MessageRow → List MessageListsRow → List MessageListsRow
grown_lists_from old new T (m ∷ ms) (l ∷ ls) =
    grown_lists old new T (grown_message (further old new T) m) l ∷ grown_lists_from old new (T + 1) ms ls
grown_lists_from old new T ms ls = []

abbrev pub MessagesGrow : Type 0
MessagesGrow =
    (files added : List FileDescriptorProto) → Checked files (flattened files) →
    let old = flattened files in let new = added_rows files added in
    is_linked (linked_rows old) ≡ true →
    (linked_catalog (files ++ added) (behind old new)).messages
    ≡ grown_lists_from old new 0 (linked_rows old).messages (linked_catalog files old).messages
    ++ each_from (added_lists old new) (length old.messages) (added_messages old new)

-- THE LISTS OF ENUMS

abbrev pub EnumsGrow : Type 0
EnumsGrow =
    (files added : List FileDescriptorProto) (old new : FlatRows) →
    (linked_catalog (files ++ added) (behind old new)).enums ≡ (linked_catalog files old).enums ++ map enum_lists new.enums
