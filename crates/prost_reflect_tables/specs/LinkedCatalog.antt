-- The catalog that files give: what each definition encloses, what extends what, services, and places in the order of names. What a fault would leave open has some meaning too.
use Rattle.std.proofs.Props.{props}
use Rattle.std.specs.Prelude.{◌≡◌, ℕ, ◌+◌, ℤ, not, is_none, if◌then◌else◌, List, [], ◌∷◌, map, Option, Some, None, slice_get, unwrap_or, string_bytes}
use Rattle.prost_reflect_types.specs.declared.FileDescriptorProto.{FileDescriptorProto}
use Rattle.prost_reflect_types.specs.declared.FieldDescriptorProto.{FieldDescriptorProto}
use Rattle.prost_reflect_types.specs.declared.EnumValueDescriptorProto.{EnumValueDescriptorProto}
use Rattle.prost_reflect_types.specs.declared.MethodDescriptorProto.{MethodDescriptorProto}
use Rattle.prost_reflect_tables.specs.declared.catalog.Catalog.{Catalog}
use Rattle.prost_reflect_tables.specs.Names.{text_or_empty}
use Rattle.prost_reflect_tables.specs.Rows.{FieldRow, MessageRow, TableRows}
use Rattle.prost_reflect_tables.specs.Places as places
use Rattle.prost_reflect_tables.specs.Flat.{DefinitionRow, FlatEnumRow, FlatServiceRow, FlatRows, is_proto3, flattened}
use Rattle.prost_reflect_tables.specs.Faults.{name_place, file_names, message_names, enum_names, names_of}
use Rattle.prost_reflect_tables.specs.Linking.{Links, links_of, natural_or_zero, place_in, place_or_first, extended_place, value_number, linked_identity, linked_rows}
use Rattle.prost_reflect_tables.specs.CatalogRows.{FileRow, MessageListsRow, EnumListsRow, ExtensionRow, MethodRow, ServiceRow, SortedRow, CatalogRows, catalog_row}
use Rattle.prost_reflect_tables.specs.Gathered.{places_where, all_places, places_of, all_pairs}
use Rattle.prost_reflect_tables.specs.Orders.{sorted_by, text_in, text_before, by_text, by_number}

-- What each item gives at its place, where the first item is at the place i.
abbrev pub each_from : {X Y : Type 0} → (ℕ → X → Y) → ℕ → List X → List Y
each_from f i [] = []
each_from f i (x ∷ xs) = f i x ∷ each_from f (i + 1) xs

-- FILES

-- The file of a definition that no message encloses.
abbrev pub top_file : {R : Type 0} → DefinitionRow R → Option ℕ
top_file d = if is_none d.parent then Some d.file else None

-- A name that is not there stands for the first file.
abbrev pub file_place : List (List ℕ) → List ℕ → ℕ
file_place names name = unwrap_or (name_place names name) 0

-- The file that an import names by its place among the imports.
abbrev pub import_at : List ℕ → ℤ → ℕ
import_at dependencies i = unwrap_or (slice_get dependencies (unwrap_or (place_in (Some i)) 0)) 0

abbrev pub dependency_places : List (List ℕ) → FileDescriptorProto → List ℕ
dependency_places names f = map (λ d. file_place names (string_bytes d)) f.dependency.items

abbrev pub linked_file : List (List ℕ) → FlatRows → ℕ → FileDescriptorProto → FileRow
linked_file names rows F f = record {
  messages = places_of (λ m. top_file m.definition) rows.messages F;
  enums = places_of (λ e. top_file e.definition) rows.enums F;
  extensions = places_of top_file rows.extensions F;
  services = places_of (λ s. top_file s.definition) rows.services F;
  dependencies = dependency_places names f;
  public_dependencies = map (import_at (dependency_places names f)) f.public_dependency.items;
  is_proto3 = is_proto3 f;
}

-- MESSAGES AND ENUMS

abbrev pub field_names : List FieldRow → List (List ℕ)
field_names fields = map (λ f. f.id.name) fields

abbrev pub json_names : List FieldRow → List (List ℕ)
json_names fields = map (λ f. f.json_name) fields

abbrev pub own_fields : List FieldRow → List ℕ
own_fields fields = places_where (λ f. not f.is_extension) fields

abbrev pub linked_lists : FlatRows → ℕ → MessageRow → MessageListsRow
linked_lists rows T m = record {
  messages = places_of (λ c. c.definition.parent) rows.messages T;
  enums = places_of (λ e. e.definition.parent) rows.enums T;
  extensions = places_of (λ d. d.parent) rows.extensions T;
  extending = places_of (extended_place (links_of rows)) rows.extensions T;
  fields = own_fields m.fields;
  by_name = by_text (field_names m.fields) (own_fields m.fields);
  by_json_name = by_text (json_names m.fields) (own_fields m.fields);
}

abbrev pub value_names : List (DefinitionRow EnumValueDescriptorProto) → List (List ℕ)
value_names values = map (λ v. text_or_empty v.proto.name) values

-- The places of texts, in the order of the texts.
abbrev pub ordered : List (List ℕ) → List ℕ
ordered texts = by_text texts (all_places texts)

abbrev pub enum_lists : FlatEnumRow → EnumListsRow
enum_lists e =
    let numbers = map value_number e.values in
    record { by_name = ordered (value_names e.values); by_number = by_number numbers (all_places numbers) }

-- EXTENSIONS AND SERVICES

-- The message that an extension extends, and the place of its number's row there.
abbrev pub extension_of : TableRows → (message : ℕ) → DefinitionRow FieldDescriptorProto → ExtensionRow
extension_of linked message d =
    record { message = message; field = unwrap_or (places.place_of (places.fields_at linked message) (natural_or_zero d.proto.number)) 0 }

abbrev pub linked_extension : Links → TableRows → DefinitionRow FieldDescriptorProto → ExtensionRow
linked_extension links linked d = extension_of linked (place_or_first links.messages d.proto.extendee) d

abbrev pub linked_method : Links → DefinitionRow MethodDescriptorProto → MethodRow
linked_method links d = record {
  id = linked_identity d.proto.name d;
  input = place_or_first links.messages d.proto.input_type;
  output = place_or_first links.messages d.proto.output_type;
}

abbrev pub linked_service : Links → FlatServiceRow → ServiceRow
linked_service links s = record { id = linked_identity s.definition.proto.name s.definition; methods = map (linked_method links) s.methods }

-- ALL OF IT

abbrev pub service_names : FlatRows → List (List ℕ)
service_names rows = map (λ s. s.definition.full_name) rows.services

-- The values of all enums, each as the place of its enum and its place among the values of that enum, by enum and then by declaration.
abbrev pub value_places : FlatRows → List (ℕ × ℕ)
value_places rows = all_pairs (map (λ e. e.values) rows.enums)

-- The full names of the values of each enum.
abbrev pub value_full_names : FlatRows → List (List (List ℕ))
value_full_names rows = map (λ e. names_of e.values) rows.enums

-- That of the value at such a place.
abbrev pub value_full_name : FlatRows → ℕ × ℕ → List ℕ
value_full_name rows p = text_in (value_full_names rows) p

abbrev pub sorted_places : List FileDescriptorProto → FlatRows → SortedRow
sorted_places files rows = record {
  files = ordered (file_names files);
  messages = ordered (message_names rows);
  enums = ordered (enum_names rows);
  extensions = ordered (names_of rows.extensions);
  services = ordered (service_names rows);
  values = sorted_by (text_before (value_full_name rows)) (value_places rows);
}

abbrev pub linked_catalog : List FileDescriptorProto → FlatRows → CatalogRows
linked_catalog files rows = let linked = linked_rows rows in record {
  files = each_from (linked_file (file_names files) rows) 0 files;
  messages = each_from (linked_lists rows) 0 linked.messages;
  enums = map enum_lists rows.enums;
  extensions = map (linked_extension (links_of rows) linked) rows.extensions;
  services = map (linked_service (links_of rows)) rows.services;
  by_name = sorted_places files rows;
}

-- The catalog is that of the files.
unfoldable pub IsCatalogOf : List FileDescriptorProto → Catalog → Type 0
IsCatalogOf files catalog = catalog_row catalog ≡ linked_catalog files (flattened files)

pub catalog_prop : (files : List FileDescriptorProto) (catalog : Catalog) → IsProp (IsCatalogOf files catalog)
unfolding IsCatalogOf
catalog_prop files catalog = hlevel props
