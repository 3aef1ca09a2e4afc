use Rattle.prost_reflect_dynamic.proofs.Common.{field_row, pool_rows}
use Rattle.prost_reflect_dynamic.proofs.OwnRows.{oneof_there}
use Rattle.prost_reflect_dynamic.proofs.descriptor.field.FieldDescriptor.containing_oneof.Goals as goal

pub at-requires : goal.at-requires
at-requires c =
    let field = c.args.self.now in
    oneof_there (pool_rows field.message.pool.inner) field.message.index field.index (field_row c.table.result.now) c.in-Some.index field.message.pool.inner.value.tables.linked c.table.ensures c.in-Some.is
