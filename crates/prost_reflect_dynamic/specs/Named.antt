-- What descriptors name.
use Rattle.std.specs.Prelude.{◌≡◌, ℕ, Option, slice_get}
use Rattle.prost_reflect_wire.specs.Schema.{Schema}
use Rattle.prost_reflect_tables.specs.CatalogRows.{MessageListsRow}
use Rattle.prost_reflect_tables.specs.Rows.{MessageRow}
use Rattle.prost_reflect_tables.specs.Shown.{schema_from}
use Rattle.prost_reflect_pool.specs.SharedPools.{pool_rows, pool_catalog, pool_contents}
use Rattle.prost_reflect_pool.specs.declared.pooled_type.PooledType.{PooledType}
use Rattle.prost_reflect_dynamic.specs.declared.descriptor.message.MessageDescriptor.{MessageDescriptor}

abbrev pub schema_named : MessageDescriptor → Schema
schema_named d = schema_from (pool_rows d.pool.inner)

abbrev pub type_named : MessageDescriptor → ℕ
type_named d = d.index

abbrev pub message_row_named : MessageDescriptor → Option MessageRow
message_row_named d = slice_get (pool_rows d.pool.inner).messages d.index

-- What is declared in the message type, and what extends it.
abbrev pub lists_named : MessageDescriptor → Option MessageListsRow
lists_named d = slice_get (pool_catalog d.pool.inner).messages d.index

-- The message type is the one that the descriptor names.
abbrev pub IsNamed : MessageDescriptor → PooledType → Type 0
IsNamed d t = (t.pool ≡ d.pool.inner) × (t.index ≡ d.index)

-- The same where the pool is shared once more.
abbrev pub NamesSame : MessageDescriptor → PooledType → Type 0
NamesSame d t = (d.pool.inner.value ≡ t.pool.value) × (d.index ≡ t.index)

-- The same where the pools' files hold the same.
abbrev pub NamesEqual : MessageDescriptor → PooledType → Type 0
NamesEqual d t = (pool_contents d.pool.inner ≡ pool_contents t.pool) × (d.index ≡ t.index)

-- Two descriptors of one message type.
abbrev pub SameMessage : MessageDescriptor → MessageDescriptor → Type 0
SameMessage a b = (b.pool.inner.value ≡ a.pool.inner.value) × (b.index ≡ a.index)
