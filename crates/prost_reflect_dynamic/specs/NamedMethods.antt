-- What the descriptor of a method names.
use Rattle.std.specs.Prelude.{◌≡◌, Option, option_and_then, slice_get}
use Rattle.prost_reflect_pool.specs.RecordPaths.{AnyRecord, record_of}
use Rattle.prost_reflect_pool.specs.SharedPools.{files_of}
use Rattle.prost_reflect_tables.specs.CatalogRows.{MethodRow}
use Rattle.prost_reflect_dynamic.specs.NamedServices.{SameService, methods_of}
use Rattle.prost_reflect_dynamic.specs.declared.descriptor.method.MethodDescriptor.{MethodDescriptor}

abbrev pub method_row_named : MethodDescriptor → Option MethodRow
method_row_named m = slice_get (methods_of m.service) m.index

-- The method's record, found by the path of its row.
abbrev pub record_named : MethodDescriptor → Option AnyRecord
record_named m = option_and_then (λ row. record_of (files_of m.service.pool.inner) row.id) (method_row_named m)

-- Two descriptors of one method.
abbrev pub SameMethod : MethodDescriptor → MethodDescriptor → Type 0
SameMethod a b = SameService a.service b.service × (b.index ≡ a.index)
