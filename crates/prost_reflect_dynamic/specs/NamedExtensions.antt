-- What the descriptor of an extension names.
use Rattle.std.specs.Prelude.{◌≡◌, Option, Some, option_and_then, option_map, slice_get}
use Rattle.prost_reflect_tables.specs.CatalogRows.{ExtensionRow}
use Rattle.prost_reflect_tables.specs.Places.{fields_at}
use Rattle.prost_reflect_tables.specs.Rows.{FieldRow}
use Rattle.prost_reflect_pool.specs.SharedPools.{pool_rows, pool_catalog}
use Rattle.prost_reflect_dynamic.specs.declared.descriptor.extension.ExtensionDescriptor.{ExtensionDescriptor}
use Rattle.prost_reflect_dynamic.specs.declared.descriptor.message.MessageDescriptor.{MessageDescriptor}

-- Where the extension's row stands.
abbrev pub extension_named : ExtensionDescriptor → Option ExtensionRow
extension_named x = slice_get (pool_catalog x.pool.inner).extensions x.index

-- The extension's row, which is one of those of the message type that it extends.
abbrev pub extension_row_named : ExtensionDescriptor → Option FieldRow
extension_row_named x = option_and_then (λ e. slice_get (fields_at (pool_rows x.pool.inner) e.message) e.field) (extension_named x)

-- Two descriptors of one extension.
abbrev pub SameExtension : ExtensionDescriptor → ExtensionDescriptor → Type 0
SameExtension a b = (b.pool.inner.value ≡ a.pool.inner.value) × (b.index ≡ a.index)

-- The extension is one of the message type's.
abbrev pub Extends : MessageDescriptor → ExtensionDescriptor → Type 0
Extends d x = (x.pool.inner.value ≡ d.pool.inner.value) × (option_map (λ e. e.message) (extension_named x) ≡ Some d.index)
