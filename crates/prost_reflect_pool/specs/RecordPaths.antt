-- The records of definitions, found by their paths: each pair of numbers names a list of a record, by the number of its field, and a place in the list (descriptor.proto, `SourceCodeInfo.Location.path`).
use Rattle.std.specs.Prelude.{◌≡◌, ℕ, ℤ, pos, negsuc, List, [], ◌∷◌, Option, Some, None, option_map, option_and_then, slice_get, if◌then◌else◌}
use Rattle.std.specs.Ordering.{int_eq}
use Rattle.prost_reflect_types.specs.declared.FileDescriptorProto.{FileDescriptorProto}
use Rattle.prost_reflect_types.specs.declared.DescriptorProto.{DescriptorProto}
use Rattle.prost_reflect_types.specs.declared.DescriptorProto.TheViews.{out-DescriptorProto}
use Rattle.prost_reflect_types.specs.declared.FieldDescriptorProto.{FieldDescriptorProto}
use Rattle.prost_reflect_types.specs.declared.OneofDescriptorProto.{OneofDescriptorProto}
use Rattle.prost_reflect_types.specs.declared.EnumDescriptorProto.{EnumDescriptorProto}
use Rattle.prost_reflect_types.specs.declared.EnumValueDescriptorProto.{EnumValueDescriptorProto}
use Rattle.prost_reflect_types.specs.declared.ServiceDescriptorProto.{ServiceDescriptorProto}
use Rattle.prost_reflect_types.specs.declared.MethodDescriptorProto.{MethodDescriptorProto}
use Rattle.prost_reflect_tables.specs.Rows.{IdentityRow, OneofRow, MessageRow, TableRows}
use Rattle.prost_reflect_tables.specs.CatalogRows.{MethodRow, ServiceRow, CatalogRows}

-- A record that a path can name.
pub data AnyRecord : Type 0 where
  FileRecord : FileDescriptorProto → AnyRecord
  MessageRecord : DescriptorProto → AnyRecord
  FieldRecord : FieldDescriptorProto → AnyRecord
  OneofRecord : OneofDescriptorProto → AnyRecord
  EnumRecord : EnumDescriptorProto → AnyRecord
  ValueRecord : EnumValueDescriptorProto → AnyRecord
  ServiceRecord : ServiceDescriptorProto → AnyRecord
  MethodRecord : MethodDescriptorProto → AnyRecord

-- No item stands at a negative place.
abbrev pub item : {R : Type 0} → List R → ℤ → Option R
item xs (pos i) = slice_get xs i
item xs (negsuc i) = None

abbrev pub in_file : FileDescriptorProto → ℤ → ℤ → Option AnyRecord
in_file f number place =
    if int_eq number (pos 4) then option_map MessageRecord (item f.message_type.items place)
    else if int_eq number (pos 5) then option_map EnumRecord (item f.enum_type.items place)
    else if int_eq number (pos 6) then option_map ServiceRecord (item f.service.items place)
    else if int_eq number (pos 7) then option_map FieldRecord (item f.extension.items place)
    else None

abbrev pub in_message : DescriptorProto → ℤ → ℤ → Option AnyRecord
in_message m number place =
    if int_eq number (pos 2) then option_map FieldRecord (item (out-DescriptorProto m).field.items place)
    else if int_eq number (pos 3) then option_map MessageRecord (item (out-DescriptorProto m).nested_type.items place)
    else if int_eq number (pos 4) then option_map EnumRecord (item (out-DescriptorProto m).enum_type.items place)
    else if int_eq number (pos 6) then option_map FieldRecord (item (out-DescriptorProto m).extension.items place)
    else if int_eq number (pos 8) then option_map OneofRecord (item (out-DescriptorProto m).oneof_decl.items place)
    else None

abbrev pub in_enum : EnumDescriptorProto → ℤ → ℤ → Option AnyRecord
in_enum e number place = if int_eq number (pos 2) then option_map ValueRecord (item e.value.items place) else None

abbrev pub in_service : ServiceDescriptorProto → ℤ → ℤ → Option AnyRecord
in_service s number place = if int_eq number (pos 2) then option_map MethodRecord (item s.method.items place) else None

-- The record at a place of the list that a record has as its field of a number.
abbrev pub member : (number place : ℤ) → AnyRecord → Option AnyRecord
member number place (FileRecord f) = in_file f number place
member number place (MessageRecord m) = in_message m number place
member number place (EnumRecord e) = in_enum e number place
member number place (ServiceRecord s) = in_service s number place
member number place (FieldRecord f) = None
member number place (OneofRecord o) = None
member number place (ValueRecord v) = None
member number place (MethodRecord m) = None

-- The record that a path names below a record.
abbrev pub record_below : Option AnyRecord → List ℤ → Option AnyRecord
record_below r [] = r
record_below r (number ∷ []) = None
record_below r (number ∷ place ∷ path) = record_below (option_and_then (member number place) r) path

-- The record that a path names in the file of a place.
abbrev pub record_in : List FileDescriptorProto → ℕ → List ℤ → Option AnyRecord
record_in files file path = record_below (option_map FileRecord (slice_get files file)) path

-- The record of the definition that stands there.
abbrev pub record_of : List FileDescriptorProto → IdentityRow → Option AnyRecord
record_of files id = record_in files id.file id.path

-- PLACES

abbrev pub oneofs_or_none : Option MessageRow → List OneofRow
oneofs_or_none None = []
oneofs_or_none (Some m) = m.oneofs

-- The oneofs of the message type of a place; none where there is no such type.
abbrev pub oneofs_at : TableRows → ℕ → List OneofRow
oneofs_at rows T = oneofs_or_none (slice_get rows.messages T)

abbrev pub methods_or_none : Option ServiceRow → List MethodRow
methods_or_none None = []
methods_or_none (Some s) = s.methods

-- The methods of the service of a place; none where there is no such service.
abbrev pub methods_at : CatalogRows → ℕ → List MethodRow
methods_at catalog S = methods_or_none (slice_get catalog.services S)

-- A record of a sort was found.
pub record Found {R : Type 0} (sort : R → AnyRecord) (found : Option AnyRecord) : Type 0 where
  pub it : R
  pub is : found ≡ Some (sort it)
