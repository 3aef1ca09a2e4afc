-- What fields have where nothing is stored, and which values are that (the guide on field presence).
use Rattle.std.specs.Prelude.{◌≡◌, ℕ, [], Option, Some, None, option_map, IsSomeAnd}
use Rattle.std.specs.declared.alloc.Global.{Global}
use Rattle.std.specs.declared.rc.Rc.{Rc}
use Rattle.prost_reflect_wire.specs.Content as contents
use Rattle.prost_reflect_wire.specs.Edit.{default_value}
use Rattle.prost_reflect_tables.specs.Rows.{FieldRow, TableRows}
use Rattle.prost_reflect_tables.specs.Shown.{schema_from, schema_field}
use Rattle.prost_reflect_pool.specs.SharedPools.{pool_rows, pool_contents}
use Rattle.prost_reflect_pool.specs.declared.pool.LinkedPool.{LinkedPool}
use Rattle.prost_reflect_rows.specs.RowKinds.{single_place}
use Rattle.prost_reflect_dynamic.specs.NamedDefaults.{default_named}
use Rattle.prost_reflect_dynamic.specs.NamedExtensions.{extension_row_named}
use Rattle.prost_reflect_dynamic.specs.NamedField.{row_at}
use Rattle.prost_reflect_dynamic.specs.Variants.{message_in}
use Rattle.prost_reflect_dynamic.specs.View.{value_of, message_type_of, stored_in}
use Rattle.prost_reflect_dynamic.specs.declared.descriptor.pool.DescriptorPool.{DescriptorPool}
use Rattle.prost_reflect_dynamic.specs.declared.descriptor.kind.Kind.{Kind}
use Rattle.prost_reflect_dynamic.specs.declared.descriptor.kind.Kind.TheVariants as kinds
use Rattle.prost_reflect_dynamic.specs.declared.descriptor.field.FieldDescriptor.{FieldDescriptor}
use Rattle.prost_reflect_dynamic.specs.declared.descriptor.extension.ExtensionDescriptor.{ExtensionDescriptor}
use Rattle.prost_reflect_dynamic.specs.declared.value.Value.{Value, out-Value}
use Rattle.prost_reflect_dynamic.specs.declared.message.DynamicMessage.{DynamicMessage}

-- DEFAULTS

-- The default of the row's field, by its form and its kind.
abbrev pub row_default : TableRows → FieldRow → contents.Value
row_default rows row = default_value (schema_from rows) (schema_field rows row).form (schema_field rows row).value_type

abbrev pub default_by_row : DescriptorPool → Option FieldRow → Option contents.Value
default_by_row pool row = option_map (row_default (pool_rows pool.inner)) row

abbrev pub field_default : FieldDescriptor → Option contents.Value
field_default field = default_by_row field.message.pool (row_at field)

abbrev pub extension_default : ExtensionDescriptor → Option contents.Value
extension_default x = default_by_row x.pool (extension_row_named x)

-- WHICH VALUES ARE DEFAULTS

-- A message that stores neither values nor unknown fields, of the type at the place of the pool, or of one whose files hold the same.
abbrev pub IsEmptyOf : Rc LinkedPool Global → ℕ → Option DynamicMessage → Type 0
IsEmptyOf pool T None = ⊥
IsEmptyOf pool T (Some m) = (pool_contents pool ≡ pool_contents (message_type_of m).pool)
    × (T ≡ (message_type_of m).index)
    × (stored_in m ≡ [])

-- The default of a message type, where there is one, or else this value.
abbrev pub IsDefaultBy : Rc LinkedPool Global → Option ℕ → contents.Value → Value → Type 0
IsDefaultBy pool (Some T) default v = IsEmptyOf pool T (message_in (out-Value v))
IsDefaultBy pool None default v = value_of v ≡ default

abbrev pub IsRowDefault : Rc LinkedPool Global → FieldRow → Value → Type 0
IsRowDefault pool row v = IsDefaultBy pool (single_place row) (row_default (pool_rows pool) row) v

abbrev pub IsDefaultByRow : DescriptorPool → Option FieldRow → Value → Type 0
IsDefaultByRow pool row v = IsSomeAnd row (λ f. IsRowDefault pool.inner f v)

abbrev pub IsFieldDefault : FieldDescriptor → Value → Type 0
IsFieldDefault field v = IsDefaultByRow field.message.pool (row_at field) v

abbrev pub IsExtensionDefault : ExtensionDescriptor → Value → Type 0
IsExtensionDefault x v = IsDefaultByRow x.pool (extension_row_named x) v

abbrev pub IsKindDefault : Kind → Value → Type 0
IsKindDefault (kinds.Message d) v = IsEmptyOf d.pool.inner d.index (message_in (out-Value v))
IsKindDefault kind v = value_of v ≡ default_named kind
