-- The rows of a catalog: what they say, and not where it lies in memory.
use Rattle.std.specs.Prelude.{ℕ, Bool, List, map}
use Rattle.prost_reflect_tables.specs.Rows.{IdentityRow, identity_row}
use Rattle.prost_reflect_tables.specs.declared.catalog.FileTable.{FileTable}
use Rattle.prost_reflect_tables.specs.declared.catalog.MessageLists.{MessageLists}
use Rattle.prost_reflect_tables.specs.declared.catalog.EnumLists.{EnumLists}
use Rattle.prost_reflect_tables.specs.declared.catalog.ExtensionTable.{ExtensionTable}
use Rattle.prost_reflect_tables.specs.declared.catalog.MethodTable.{MethodTable}
use Rattle.prost_reflect_tables.specs.declared.catalog.ServiceTable.{ServiceTable}
use Rattle.prost_reflect_tables.specs.declared.catalog.SortedPlaces.{SortedPlaces}
use Rattle.prost_reflect_tables.specs.declared.catalog.Catalog.{Catalog}

pub record FileRow : Type 0 where
  pub messages : List ℕ
  pub enums : List ℕ
  pub extensions : List ℕ
  pub services : List ℕ
  pub dependencies : List ℕ
  pub public_dependencies : List ℕ
  pub is_proto3 : Bool

pub record MessageListsRow : Type 0 where
  pub messages : List ℕ
  pub enums : List ℕ
  pub extensions : List ℕ
  pub extending : List ℕ
  pub fields : List ℕ
  pub by_name : List ℕ
  pub by_json_name : List ℕ

pub record EnumListsRow : Type 0 where
  pub by_name : List ℕ
  pub by_number : List ℕ

pub record ExtensionRow : Type 0 where
  pub message : ℕ
  pub field : ℕ

pub record MethodRow : Type 0 where
  pub id : IdentityRow
  pub input : ℕ
  pub output : ℕ

pub record ServiceRow : Type 0 where
  pub id : IdentityRow
  pub methods : List MethodRow

pub record SortedRow : Type 0 where
  pub files : List ℕ
  pub messages : List ℕ
  pub enums : List ℕ
  pub extensions : List ℕ
  pub services : List ℕ
  pub values : List (ℕ × ℕ)

pub record CatalogRows : Type 0 where
  pub files : List FileRow
  pub messages : List MessageListsRow
  pub enums : List EnumListsRow
  pub extensions : List ExtensionRow
  pub services : List ServiceRow
  pub by_name : SortedRow

abbrev pub file_table_row : FileTable → FileRow
file_table_row f = record { messages = f.messages.items; enums = f.enums.items; extensions = f.extensions.items; services = f.services.items; dependencies = f.dependencies.items; public_dependencies = f.public_dependencies.items; is_proto3 = f.is_proto3 }

abbrev pub message_lists_row : MessageLists → MessageListsRow
message_lists_row m = record { messages = m.messages.items; enums = m.enums.items; extensions = m.extensions.items; extending = m.extending.items; fields = m.fields.items; by_name = m.by_name.items; by_json_name = m.by_json_name.items }

abbrev pub enum_lists_row : EnumLists → EnumListsRow
enum_lists_row e = record { by_name = e.by_name.items; by_number = e.by_number.items }

abbrev pub extension_table_row : ExtensionTable → ExtensionRow
extension_table_row e = record { message = e.message; field = e.field }

abbrev pub method_table_row : MethodTable → MethodRow
method_table_row m = record { id = identity_row m.id; input = m.input; output = m.output }

abbrev pub service_table_row : ServiceTable → ServiceRow
service_table_row s = record { id = identity_row s.id; methods = map method_table_row s.methods.items }

abbrev pub sorted_row : SortedPlaces → SortedRow
sorted_row s = record { files = s.files; messages = s.messages; enums = s.enums; extensions = s.extensions; services = s.services; values = s.values }

abbrev pub catalog_row : Catalog → CatalogRows
catalog_row c = record { files = map file_table_row c.files; messages = map message_lists_row c.messages; enums = map enum_lists_row c.enums; extensions = map extension_table_row c.extensions; services = map service_table_row c.services; by_name = sorted_row c.by_name }
