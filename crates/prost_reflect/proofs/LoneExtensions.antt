-- Extensions are no members of oneofs.
use Rattle.std.proofs.Common.{◌≡◌, ℕ, true, not, ◌&&◌, Option, Some, None, refl, ap, sym, ◌∙◌, true≢false}
use Rattle.std.specs.Prelude.{IsSomeAnd, option_map, slice_get}
use Rattle.std.proofs.lemmas.Bool.{and_parts}
use Rattle.prost_reflect_laws.proofs.Checked.{checked_field}
use Rattle.prost_reflect_tables.specs.Places.{fields_at}
use Rattle.prost_reflect_tables.specs.Rows.{FieldRow}
use Rattle.prost_reflect_tables.specs.Shown.{schema_from, schema_field}
use Rattle.prost_reflect_pool.specs.SharedPools.{pool_rows}
use Rattle.prost_reflect_pool.proofs.PoolLinks.{extension_marked}
use Rattle.prost_reflect_dynamic.specs.NamedExtensions.{extension_row_named}
use Rattle.prost_reflect_dynamic.specs.RowLawProofs.{extension_keeps, row_checked}
use Rattle.prost_reflect_dynamic.specs.declared.descriptor.extension.ExtensionDescriptor.{ExtensionDescriptor}
use Rattle.prost_reflect_dynamic.specs.declared.descriptor.pool.DescriptorPool.{DescriptorPool}

row_alone : (pool : DescriptorPool) (T i : ℕ) (row : FieldRow) → slice_get (fields_at (pool_rows pool.inner) T) i ≡ Some row → row.is_extension ≡ true → row.oneof ≡ None
row_alone pool T i row at is = go row.oneof refl (checked_field (schema_from (pool_rows pool.inner)) (schema_field (pool_rows pool.inner) row) (row_checked (pool_rows pool.inner) T i row pool.inner.value.tables.linked at)).oneof
  where
    go : (o : Option ℕ) → row.oneof ≡ o → elim o [ None ↦ true | Some n ↦ (schema_field (pool_rows pool.inner) row).value_type.presence && not row.is_extension ] ≡ true → row.oneof ≡ None
    go None e valid = e
    go (Some n) e valid = absurd (true≢false (sym (and_parts (schema_field (pool_rows pool.inner) row).value_type.presence (not row.is_extension) valid).1 ∙ ap not is))

pub extension_alone : (x : ExtensionDescriptor) → option_map (λ f. f.oneof) (extension_row_named x) ≡ Some None
extension_alone x = go (extension_row_named x) (extension_keeps x (λ row. row.oneof ≡ None) (λ e row named at. row_alone x.pool e.message e.field row at (extension_marked x.pool.inner.value x.index e row named at)))
  where
    go : (o : Option FieldRow) → IsSomeAnd o (λ row. row.oneof ≡ None) → option_map (λ f. f.oneof) o ≡ Some None
    go None h = absurd h
    go (Some row) h = ap Some h
