-- The oneofs of message types, and the values of enums.
use Rattle.std.specs.Prelude.{List}
use Rattle.prost_reflect_tables.specs.Rows.{OneofRow, EnumValueRow}
use Rattle.prost_reflect_pool.specs.Enums.{values_at}
use Rattle.prost_reflect_pool.specs.RecordPaths.{oneofs_at}
use Rattle.prost_reflect_pool.specs.SharedPools.{pool_rows}
use Rattle.prost_reflect_dynamic.specs.declared.descriptor.message.MessageDescriptor.{MessageDescriptor}
use Rattle.prost_reflect_dynamic.specs.declared.descriptor.enums.EnumDescriptor.{EnumDescriptor}

abbrev pub oneofs_of : MessageDescriptor → List OneofRow
oneofs_of message = oneofs_at (pool_rows message.pool.inner) message.index

abbrev pub values_of : EnumDescriptor → List EnumValueRow
values_of e = values_at (pool_rows e.pool.inner) e.index
