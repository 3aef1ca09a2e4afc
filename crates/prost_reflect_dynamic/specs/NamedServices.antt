-- What the descriptors of a service and of a method name.
use Rattle.std.specs.Prelude.{◌≡◌, List, Option, slice_get}
use Rattle.prost_reflect_tables.specs.CatalogRows.{MethodRow, ServiceRow}
use Rattle.prost_reflect_pool.specs.RecordPaths.{methods_at}
use Rattle.prost_reflect_pool.specs.SharedPools.{pool_catalog}
use Rattle.prost_reflect_dynamic.specs.declared.descriptor.service.ServiceDescriptor.{ServiceDescriptor}

abbrev pub service_row_named : ServiceDescriptor → Option ServiceRow
service_row_named s = slice_get (pool_catalog s.pool.inner).services s.index

abbrev pub methods_of : ServiceDescriptor → List MethodRow
methods_of s = methods_at (pool_catalog s.pool.inner) s.index

-- Two descriptors of one service.
abbrev pub SameService : ServiceDescriptor → ServiceDescriptor → Type 0
SameService a b = (b.pool.inner.value ≡ a.pool.inner.value) × (b.index ≡ a.index)
