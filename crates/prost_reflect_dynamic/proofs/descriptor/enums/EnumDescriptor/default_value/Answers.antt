use Rattle.prost_reflect_dynamic.proofs.Common.{pool_rows}
use Rattle.prost_reflect_dynamic.proofs.OwnRows.{first_there}
use Rattle.prost_reflect_dynamic.proofs.descriptor.enums.EnumDescriptor.default_value.Goals as goal

pub at-requires : goal.at-requires
at-requires c =
    let e = c.args.self.now in
    first_there (pool_rows e.pool.inner) e.index e.pool.inner.value.tables.linked e.in_range
