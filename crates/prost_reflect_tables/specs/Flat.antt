-- The definitions of files in flat lists, each with its full name, its path and what encloses it (descriptor.proto, `SourceCodeInfo.Location.path`; the language guide, "Packages and Name Resolution").
use Rattle.std.specs.Prelude.{ℕ, ◌+◌, ℤ, pos, Bool, length, List, [], ◌∷◌, ◌++◌, map, Option, Some, None, String, Vec, codes, bytes_eq}
use Rattle.std.specs.declared.alloc.Global.{Global}
use Rattle.prost_reflect_types.specs.declared.FileDescriptorProto.{FileDescriptorProto}
use Rattle.prost_reflect_types.specs.declared.DescriptorProto.{DescriptorProto}
use Rattle.prost_reflect_types.specs.declared.DescriptorProto.TheOpen.{DescriptorProto-F}
use Rattle.prost_reflect_types.specs.declared.DescriptorProto.TheFolds.{fold-DescriptorProto}
use Rattle.prost_reflect_types.specs.declared.ExtensionRange.{ExtensionRange}
use Rattle.prost_reflect_types.specs.declared.ReservedRange.{ReservedRange}
use Rattle.prost_reflect_types.specs.declared.FieldDescriptorProto.{FieldDescriptorProto}
use Rattle.prost_reflect_types.specs.declared.OneofDescriptorProto.{OneofDescriptorProto}
use Rattle.prost_reflect_types.specs.declared.EnumDescriptorProto.{EnumDescriptorProto}
use Rattle.prost_reflect_types.specs.declared.EnumValueDescriptorProto.{EnumValueDescriptorProto}
use Rattle.prost_reflect_types.specs.declared.ServiceDescriptorProto.{ServiceDescriptorProto}
use Rattle.prost_reflect_types.specs.declared.MethodDescriptorProto.{MethodDescriptorProto}
use Rattle.prost_reflect_tables.specs.Names.{text_or_empty, joined}

-- Where definitions stand: the full name and the path of what encloses them, the place of their file and whether it is of proto3, and the place of the message around them.
pub record ScopeRow : Type 0 where
  pub name : List ℕ
  pub path : List ℤ
  pub file : ℕ
  pub is_proto3 : Bool
  pub parent : Option ℕ

-- A definition with its record.
pub record DefinitionRow (R : Type 0) : Type 0 where
  pub full_name : List ℕ
  pub path : List ℤ
  pub file : ℕ
  pub is_proto3 : Bool
  pub parent : Option ℕ
  pub proto : R

-- A message's record without the definitions in it, which have rows of their own.
pub record MessageParts : Type 0 where
  pub name : Option (String Global)
  pub extension_range : List ExtensionRange
  pub reserved_range : List ReservedRange
  pub reserved_name : List (String Global)
  pub options : Option (Vec ℕ Global)

pub record FlatMessageRow : Type 0 where
  pub definition : DefinitionRow MessageParts
  pub fields : List (DefinitionRow FieldDescriptorProto)
  pub oneofs : List (DefinitionRow OneofDescriptorProto)

pub record FlatEnumRow : Type 0 where
  pub definition : DefinitionRow EnumDescriptorProto
  pub values : List (DefinitionRow EnumValueDescriptorProto)

pub record FlatServiceRow : Type 0 where
  pub definition : DefinitionRow ServiceDescriptorProto
  pub methods : List (DefinitionRow MethodDescriptorProto)

-- Messages, enums, extensions and services, by file and then by path.
pub record FlatRows : Type 0 where
  pub messages : List FlatMessageRow
  pub enums : List FlatEnumRow
  pub extensions : List (DefinitionRow FieldDescriptorProto)
  pub services : List FlatServiceRow

-- NAMES AND PATHS

-- A path goes on with the number of a record's field and the place in its list.
abbrev pub defined : {R : Type 0} → ScopeRow → ℕ → ℕ → Option (String Global) → R → DefinitionRow R
defined scope number place name proto = record {
  full_name = joined scope.name (text_or_empty name);
  path = scope.path ++ pos number ∷ pos place ∷ [];
  file = scope.file;
  is_proto3 = scope.is_proto3;
  parent = scope.parent;
  proto = proto;
}

-- Those of a list, whose first one is at the place.
abbrev pub defined_from : {R : Type 0} → (R → Option (String Global)) → ScopeRow → ℕ → ℕ → List R → List (DefinitionRow R)
defined_from name scope number place [] = []
defined_from name scope number place (r ∷ rs) = defined scope number place (name r) r ∷ defined_from name scope number (place + 1) rs

abbrev pub field_name : FieldDescriptorProto → Option (String Global)
field_name f = f.name

abbrev pub oneof_name : OneofDescriptorProto → Option (String Global)
oneof_name o = o.name

abbrev pub value_name : EnumValueDescriptorProto → Option (String Global)
value_name v = v.name

abbrev pub method_name : MethodDescriptorProto → Option (String Global)
method_name m = m.name

-- ENUMS AND SERVICES

-- A value's full name stands in the scope around its enum.
abbrev pub enum_at : ScopeRow → ℕ → ℕ → EnumDescriptorProto → FlatEnumRow
enum_at scope number place e =
    let definition = defined scope number place e.name e in
    record { definition = definition; values = defined_from value_name (record scope { path = definition.path }) 2 0 e.value.items }

abbrev pub enums_from : ScopeRow → ℕ → ℕ → List EnumDescriptorProto → List FlatEnumRow
enums_from scope number place [] = []
enums_from scope number place (e ∷ es) = enum_at scope number place e ∷ enums_from scope number (place + 1) es

abbrev pub service_at : ScopeRow → ℕ → ℕ → ServiceDescriptorProto → FlatServiceRow
service_at scope number place s =
    let definition = defined scope number place s.name s in
    record { definition = definition; methods = defined_from method_name (record scope { name = definition.full_name; path = definition.path }) 2 0 s.method.items }

abbrev pub services_from : ScopeRow → ℕ → ℕ → List ServiceDescriptorProto → List FlatServiceRow
services_from scope number place [] = []
services_from scope number place (s ∷ ss) = service_at scope number place s ∷ services_from scope number (place + 1) ss

-- MESSAGES

-- What a message gives: itself and the messages in it, the enums and the extensions in it.
pub record Given : Type 0 where
  pub messages : List FlatMessageRow
  pub enums : List FlatEnumRow
  pub extensions : List (DefinitionRow FieldDescriptorProto)

abbrev pub nothing : Given
nothing = record { messages = []; enums = []; extensions = [] }

abbrev pub both : Given → Given → Given
both a b = record { messages = a.messages ++ b.messages; enums = a.enums ++ b.enums; extensions = a.extensions ++ b.extensions }

-- In a scope, at a place of the list of a number, behind so many messages.
abbrev pub Placed : Type 0
Placed = ScopeRow → ℕ → ℕ → ℕ → Given

-- Those of a list of messages, the first of which is at the place.
abbrev pub all_from : List Placed → ScopeRow → ℕ → ℕ → ℕ → Given
all_from [] scope number place before = nothing
all_from (m ∷ ms) scope number place before =
    let first = m scope number place before in
    both first (all_from ms scope number (place + 1) (before + length first.messages))

-- The scope inside a definition that is the message at this place.
abbrev pub inside : {R : Type 0} → DefinitionRow R → ℕ → ScopeRow
inside d place = record { name = d.full_name; path = d.path; file = d.file; is_proto3 = d.is_proto3; parent = Some place }

abbrev pub message_parts : {A : Type 0} → DescriptorProto-F A → MessageParts
message_parts m = record { name = m.name; extension_range = m.extension_range.items; reserved_range = m.reserved_range.items; reserved_name = m.reserved_name.items; options = m.options }

abbrev pub own_message : {A : Type 0} → DescriptorProto-F A → ScopeRow → ℕ → ℕ → ℕ → FlatMessageRow
own_message m scope number place before =
    let definition = defined scope number place m.name (message_parts m) in
    record {
      definition = definition;
      fields = defined_from field_name (inside definition before) 2 0 m.field.items;
      oneofs = defined_from oneof_name (inside definition before) 8 0 m.oneof_decl.items;
    }

abbrev pub message_step : DescriptorProto-F Placed → Placed
message_step m scope number place before =
    let own = own_message m scope number place before in
    let within = inside own.definition before in
    let nested = all_from m.nested_type.items within 3 0 (before + 1) in
    record {
      messages = own ∷ nested.messages;
      enums = nested.enums ++ enums_from within 4 0 m.enum_type.items;
      extensions = nested.extensions ++ defined_from field_name within 6 0 m.extension.items;
    }

unfoldable pub message_at : DescriptorProto → Placed
message_at = fold-DescriptorProto Placed message_step

-- What is given behind flat lists.
abbrev pub with_given : FlatRows → Given → FlatRows
with_given rows given = record { messages = rows.messages ++ given.messages; enums = rows.enums ++ given.enums; extensions = rows.extensions ++ given.extensions; services = rows.services }

-- FILES

abbrev pub is_proto3 : FileDescriptorProto → Bool
is_proto3 f = bytes_eq (text_or_empty f.syntax) (codes "proto3")

abbrev pub file_scope : FileDescriptorProto → ℕ → ScopeRow
file_scope f file = record { name = text_or_empty f.package; path = []; file = file; is_proto3 = is_proto3 f; parent = None }

-- What a file gives at a place, behind so many messages.
abbrev pub file_at : FileDescriptorProto → ℕ → ℕ → FlatRows
file_at f file before =
    let scope = file_scope f file in
    let nested = all_from (map message_at f.message_type.items) scope 4 0 before in
    record {
      messages = nested.messages;
      enums = nested.enums ++ enums_from scope 5 0 f.enum_type.items;
      extensions = nested.extensions ++ defined_from field_name scope 7 0 f.extension.items;
      services = services_from scope 6 0 f.service.items;
    }

abbrev pub behind : FlatRows → FlatRows → FlatRows
behind a b = record { messages = a.messages ++ b.messages; enums = a.enums ++ b.enums; extensions = a.extensions ++ b.extensions; services = a.services ++ b.services }

-- Those of a list of files, the first of which is at the place.
abbrev pub files_from : List FileDescriptorProto → ℕ → ℕ → FlatRows
files_from [] file before = record { messages = []; enums = []; extensions = []; services = [] }
files_from (f ∷ fs) file before =
    let first = file_at f file before in
    behind first (files_from fs (file + 1) (before + length first.messages))

abbrev pub flattened : List FileDescriptorProto → FlatRows
flattened files = files_from files 0 0
