-- What the catalog of a pool names.
use Rattle.std.specs.Prelude.{ℕ, Option, option_and_then, slice_get}
use Rattle.prost_reflect_tables.specs.Rows.{FieldRow}
use Rattle.prost_reflect_tables.specs.Places.{fields_at}
use Rattle.prost_reflect_pool.specs.Pools.{pool_rows, pool_catalog}
use Rattle.prost_reflect_pool.specs.declared.pool.LinkedPool.{LinkedPool}

-- The row of the extension of a place, which stands among the fields of the message type that it extends.
abbrev pub extension_row_at : LinkedPool → ℕ → Option FieldRow
extension_row_at pool index = option_and_then (λ x. slice_get (fields_at (pool_rows pool) x.message) x.field) (slice_get (pool_catalog pool).extensions index)
