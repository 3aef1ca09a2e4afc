-- The fields of a message type that a descriptor names.
use Rattle.std.specs.Prelude.{List}
use Rattle.prost_reflect_tables.specs.Rows.{FieldRow}
use Rattle.prost_reflect_tables.specs.Places.{fields_at}
pub use Rattle.prost_reflect_tables.specs.Places.{is_declared, is_declared_at}
use Rattle.prost_reflect_pool.specs.SharedPools.{pool_rows}
use Rattle.prost_reflect_dynamic.specs.declared.descriptor.message.MessageDescriptor.{MessageDescriptor}

-- The rows of the message type's fields and extensions.
abbrev pub descriptor_fields : MessageDescriptor → List FieldRow
descriptor_fields message = fields_at (pool_rows message.pool.inner) message.index
