-- What the descriptor of a field names.
use Rattle.std.specs.Prelude.{◌≡◌, Option, slice_get}
use Rattle.prost_reflect_tables.specs.Rows.{FieldRow}
use Rattle.prost_reflect_dynamic.specs.Named.{SameMessage}
use Rattle.prost_reflect_dynamic.specs.NamedFields.{descriptor_fields}
use Rattle.prost_reflect_dynamic.specs.declared.descriptor.field.FieldDescriptor.{FieldDescriptor}

-- The field's row.
abbrev pub row_at : FieldDescriptor → Option FieldRow
row_at field = slice_get (descriptor_fields field.message) field.index

-- Two descriptors of one field.
abbrev pub SameField : FieldDescriptor → FieldDescriptor → Type 0
SameField a b = SameMessage a.message b.message × (b.index ≡ a.index)
