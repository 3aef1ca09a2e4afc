-- The defaults of the fields and extensions that descriptors name.
use Rattle.std.specs.Prelude.{◌≡◌}
use Rattle.prost_reflect_dynamic.proofs.Common.{true, Option, Some, None, ap, sym, ◌∙◌, subst, IsSomeAnd, option_and_then, option_map, slice_get, field_valid, value_valid, fields_at, FieldRow, schema_from, schema_field, pool_rows, row_default, default_by_row, IsRowDefault, IsDefaultByRow, extension_named, extension_row_named, row_at, value_of, DescriptorPool, FieldDescriptor, ExtensionDescriptor, Value}
use Rattle.prost_reflect_tables.specs.CatalogRows.{ExtensionRow}
use Rattle.prost_reflect_dynamic.specs.RowLaws.{DefaultFits, takes_by_row}
use Rattle.prost_reflect_dynamic.proofs.FieldDefaults.{row_checked}

-- FIELDS

pub field_checked : (field : FieldDescriptor) (row : FieldRow) → row_at field ≡ Some row → field_valid (schema_from (pool_rows field.message.pool.inner)) (schema_field (pool_rows field.message.pool.inner) row) ≡ true
field_checked field row at = row_checked (pool_rows field.message.pool.inner) field.message.index field.index row field.message.pool.inner.value.tables.linked at

pub field_requires : (field : FieldDescriptor) (pool : DescriptorPool) (row : FieldRow) → pool ≡ field.message.pool → row_at field ≡ Some row → field_valid (schema_from (pool_rows pool.inner)) (schema_field (pool_rows pool.inner) row) ≡ true
field_requires field pool row own at = subst (λ (p : DescriptorPool). field_valid (schema_from (pool_rows p.inner)) (schema_field (pool_rows p.inner) row) ≡ true) (sym own) (field_checked field row at)

-- EXTENSIONS

pub extension_checked : (x : ExtensionDescriptor) (row : FieldRow) → extension_row_named x ≡ Some row → field_valid (schema_from (pool_rows x.pool.inner)) (schema_field (pool_rows x.pool.inner) row) ≡ true
extension_checked x row at = go (extension_named x) at
  where
    go : (o : Option ExtensionRow) → option_and_then (λ e. slice_get (fields_at (pool_rows x.pool.inner) e.message) e.field) o ≡ Some row → field_valid (schema_from (pool_rows x.pool.inner)) (schema_field (pool_rows x.pool.inner) row) ≡ true
    go None h = cc
    go (Some e) h = row_checked (pool_rows x.pool.inner) e.message e.field row x.pool.inner.value.tables.linked h

-- BY ROWS

module _ (pool : DescriptorPool) (row : FieldRow) (o : Option FieldRow) (v : Value) (at : o ≡ Some row) where
  pub default_is : value_of v ≡ row_default (pool_rows pool.inner) row → Some (value_of v) ≡ default_by_row pool o
  default_is is = ap Some is ∙ sym (ap (option_map (row_default (pool_rows pool.inner))) at)

  pub is_default : IsRowDefault pool.inner row v → IsDefaultByRow pool o v
  is_default is = subst (λ (o : Option FieldRow). IsDefaultByRow pool o v) (sym at) is

  pub default_taken : IsSomeAnd o (DefaultFits pool) → value_of v ≡ row_default (pool_rows pool.inner) row → takes_by_row pool o v ≡ true
  default_taken fits is =
      ap (λ (o : Option FieldRow). takes_by_row pool o v) at
      ∙ (ap (value_valid (schema_field (pool_rows pool.inner) row)) is ∙ subst (λ (o : Option FieldRow). IsSomeAnd o (DefaultFits pool)) at fits)
