-- What the descriptor of a file names.
use Rattle.std.specs.Prelude.{◌≡◌, Bool, true, false, Option, slice_get}
use Rattle.prost_reflect_types.specs.declared.FileDescriptorProto.{FileDescriptorProto}
use Rattle.prost_reflect_tables.specs.CatalogRows.{FileRow}
use Rattle.prost_reflect_pool.specs.SharedPools.{pool_catalog, files_of}
use Rattle.prost_reflect_dynamic.specs.declared.descriptor.file.FileDescriptor.{FileDescriptor}
use Rattle.prost_reflect_dynamic.specs.declared.descriptor.file.Syntax.{Syntax}
use Rattle.prost_reflect_dynamic.specs.declared.descriptor.file.Syntax.TheVariants.{Proto2, Proto3}

-- The file's record.
abbrev pub file_record_at : FileDescriptor → Option FileDescriptorProto
file_record_at file = slice_get (files_of file.pool.inner) file.index

-- What stands in the file.
abbrev pub file_row_at : FileDescriptor → Option FileRow
file_row_at file = slice_get (pool_catalog file.pool.inner).files file.index

abbrev pub syntax_of : Bool → Syntax
syntax_of true = Proto3
syntax_of false = Proto2

-- Two descriptors of one file.
abbrev pub SameFile : FileDescriptor → FileDescriptor → Type 0
SameFile a b = (b.pool.inner.value ≡ a.pool.inner.value) × (b.index ≡ a.index)
