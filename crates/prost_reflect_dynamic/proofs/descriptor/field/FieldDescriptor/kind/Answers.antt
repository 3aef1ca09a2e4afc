use Rattle.prost_reflect_dynamic.proofs.Common.{length, subst, sym, IsTrue, kind_in_range, field_keeps, pool_rows, DescriptorPool}
use Rattle.prost_reflect_dynamic.proofs.descriptor.field.FieldDescriptor.kind.Goals as goal

pub from_table-requires : goal.from_table-requires
from_table-requires c =
    let P : DescriptorPool → Type 0 = λ (pool : DescriptorPool). IsTrue (kind_in_range (length (pool_rows pool.inner).messages) (length (pool_rows pool.inner).enums) c.table.result.now.kind) in
    let message = c.args.self.now.message in
    subst P (sym c.parent_pool.ensures) (field_keeps (pool_rows message.pool.inner) message.index c.args.self.now.index _ message.pool.inner.value.tables.linked c.table.ensures)
