-- What message types name.
use Rattle.std.specs.Prelude.{◌≡◌, ℕ, List}
use Rattle.prost_reflect_wire.specs.Schema.{Schema}
use Rattle.prost_reflect_tables.specs.Rows.{FieldRow}
use Rattle.prost_reflect_tables.specs.Places.{fields_at}
use Rattle.prost_reflect_tables.specs.Shown.{schema_from}
use Rattle.prost_reflect_pool.specs.SharedPools.{pool_rows, pool_contents}
use Rattle.prost_reflect_pool.specs.declared.pooled_type.PooledType.{PooledType}

-- The schema of the pool's message types, and the message type's place in it.
abbrev pub schema_at : PooledType → Schema
schema_at message = schema_from (pool_rows message.pool)

abbrev pub type_at : PooledType → ℕ
type_at message = message.index

-- The rows of the message type's fields and extensions.
abbrev pub fields_of : PooledType → List FieldRow
fields_of message = fields_at (pool_rows message.pool) message.index

-- One message type, of pools that hold the same at one place.
abbrev pub SameMessage : PooledType → PooledType → Type 0
SameMessage a b = (pool_contents b.pool ≡ pool_contents a.pool) × (pool_rows b.pool ≡ pool_rows a.pool) × (b.index ≡ a.index)
