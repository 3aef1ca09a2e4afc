-- What is looked up in a pool by its name or number: the first place of the list in which it stands.
use Rattle.std.specs.Prelude.{ℕ, ℤ, Bool, not, ◌&&◌, List, [], Option, None, Some, find, map, position, slice_get}
use Rattle.std.specs.Ordering.{int_eq}
use Rattle.std.specs.Str.{bytes_eq}
use Rattle.prost_reflect_types.specs.declared.FileDescriptorProto.{FileDescriptorProto}
use Rattle.prost_reflect_wire.specs.Schema.{passes}
use Rattle.prost_reflect_tables.specs.Names.{text_or_empty}
use Rattle.prost_reflect_tables.specs.Rows.{FieldRow, EnumValueRow, TableRows}
use Rattle.prost_reflect_tables.specs.Places.{fields_at}
use Rattle.prost_reflect_tables.specs.CatalogRows.{MessageListsRow, ExtensionRow, CatalogRows}
use Rattle.prost_reflect_tables.specs.Gathered.{all_pairs}
use Rattle.prost_reflect_pool.specs.Enums.{values_at}
use Rattle.prost_reflect_pool.specs.Pools.{pool_catalog}
use Rattle.prost_reflect_pool.specs.Listed.{extension_row_at}
use Rattle.prost_reflect_pool.specs.declared.pool.LinkedPool.{LinkedPool}

abbrev pub enum_place : TableRows → List ℕ → Option ℕ
enum_place rows full_name = position (λ e. bytes_eq e.id.full_name full_name) rows.enums

abbrev pub service_place : CatalogRows → List ℕ → Option ℕ
service_place catalog full_name = position (λ s. bytes_eq s.id.full_name full_name) catalog.services

-- A file without a name has the empty one.
abbrev pub file_place : List FileDescriptorProto → List ℕ → Option ℕ
file_place files name = position (λ f. bytes_eq (text_or_empty f.name) name) files

-- EXTENSIONS

abbrev pub full_name_or_empty : Option FieldRow → List ℕ
full_name_or_empty None = []
full_name_or_empty (Some f) = f.id.full_name

-- The full name of an extension's row, which stands among the fields of the message type that it extends.
abbrev pub extension_name : TableRows → ExtensionRow → List ℕ
extension_name rows x = full_name_or_empty (slice_get (fields_at rows x.message) x.field)

abbrev pub extension_place : TableRows → CatalogRows → List ℕ → Option ℕ
extension_place rows catalog full_name = position (λ x. bytes_eq (extension_name rows x) full_name) catalog.extensions

abbrev pub extending_or_none : Option MessageListsRow → List ℕ
extending_or_none None = []
extending_or_none (Some lists) = lists.extending

-- The first of the extensions of a message type whose row passes.
abbrev pub extension_where : LinkedPool → ℕ → (FieldRow → Bool) → Option ℕ
extension_where pool T test = find (λ i. passes (extension_row_at pool i) test) (extending_or_none (slice_get (pool_catalog pool).messages T))

-- FIELDS

-- Extensions are no fields of a name.
abbrev pub named_field : List FieldRow → List ℕ → Option ℕ
named_field fields name = position (λ f. not f.is_extension && bytes_eq f.id.name name) fields

-- Rows ascend by number, so of fields with one name in JSON this is the one of the least number.
abbrev pub json_named_field : List FieldRow → List ℕ → Option ℕ
json_named_field fields name = position (λ f. not f.is_extension && bytes_eq f.json_name name) fields

-- VALUES

abbrev pub named_value : List EnumValueRow → List ℕ → Option ℕ
named_value values name = position (λ v. bytes_eq v.id.name name) values

-- Of values with one number this is the one that is declared first.
abbrev pub numbered_value : List EnumValueRow → ℤ → Option ℕ
numbered_value values number = position (λ v. int_eq v.number number) values

-- The values of all enums, each as the place of its enum and its place among the values of that enum, by enum and then by declaration.
abbrev pub value_places : TableRows → List (ℕ × ℕ)
value_places rows = all_pairs (map (λ e. e.values) rows.enums)

-- The first of them whose row has the full name. Full names of values stand in the scope around their enum.
abbrev pub value_place : TableRows → List ℕ → Option (ℕ × ℕ)
value_place rows full_name = find (λ p. passes (slice_get (values_at rows p.0) p.1) (λ v. bytes_eq v.id.full_name full_name)) (value_places rows)
