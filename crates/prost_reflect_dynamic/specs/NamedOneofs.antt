-- What the descriptor of a oneof names.
use Rattle.std.specs.Prelude.{◌≡◌, ℕ, Bool, false, List, [], ◌∷◌, Option, Some, option_and_then, slice_get, unwrap_or}
use Rattle.prost_reflect_types.specs.declared.FileDescriptorProto.{FileDescriptorProto}
use Rattle.prost_reflect_tables.specs.Rows.{FieldRow, OneofRow}
use Rattle.prost_reflect_pool.specs.RecordPaths.{AnyRecord, FieldRecord, record_of}
use Rattle.prost_reflect_dynamic.specs.Named.{SameMessage}
use Rattle.prost_reflect_dynamic.specs.NamedLists.{oneofs_of}
use Rattle.prost_reflect_dynamic.specs.declared.descriptor.oneof.OneofDescriptor.{OneofDescriptor}

abbrev pub oneof_row_named : OneofDescriptor → Option OneofRow
oneof_row_named o = slice_get (oneofs_of o.message) o.index

-- Two descriptors of one oneof.
abbrev pub SameOneof : OneofDescriptor → OneofDescriptor → Type 0
SameOneof a b = SameMessage a.message b.message × (b.index ≡ a.index)

-- Whether a field's record says `proto3_optional`.
abbrev pub is_proto3_optional : Option AnyRecord → Bool
is_proto3_optional (Some (FieldRecord field)) = unwrap_or field.proto3_optional false
is_proto3_optional r = false

-- Whether the places are one alone, and the record of the field there says `proto3_optional`.
abbrev pub is_synthetic_in : List FileDescriptorProto → List FieldRow → List ℕ → Bool
is_synthetic_in files fields (i ∷ []) = is_proto3_optional (option_and_then (λ f. record_of files f.id) (slice_get fields i))
is_synthetic_in files fields places = false
