-- What the descriptor of an enum names.
use Rattle.std.specs.Prelude.{◌≡◌, Option, slice_get}
use Rattle.prost_reflect_tables.specs.CatalogRows.{EnumListsRow}
use Rattle.prost_reflect_tables.specs.Rows.{EnumRow}
use Rattle.prost_reflect_pool.specs.SharedPools.{pool_rows, pool_catalog}
use Rattle.prost_reflect_dynamic.specs.declared.descriptor.enums.EnumDescriptor.{EnumDescriptor}

abbrev pub enum_row_at : EnumDescriptor → Option EnumRow
enum_row_at e = slice_get (pool_rows e.pool.inner).enums e.index

-- What is looked up in the enum.
abbrev pub enum_lists_at : EnumDescriptor → Option EnumListsRow
enum_lists_at e = slice_get (pool_catalog e.pool.inner).enums e.index

-- Two descriptors of one enum.
abbrev pub SameEnum : EnumDescriptor → EnumDescriptor → Type 0
SameEnum a b = (b.pool.inner.value ≡ a.pool.inner.value) × (b.index ≡ a.index)
