-- What a shared pool holds.
use Rattle.std.specs.Prelude.{List}
use Rattle.std.specs.declared.alloc.Global.{Global}
use Rattle.std.specs.declared.rc.Rc.{Rc}
use Rattle.prost_reflect_wire.specs.Content.{Content}
use Rattle.prost_reflect_types.specs.DescriptorViews.{shared_files}
use Rattle.prost_reflect_types.specs.declared.FileDescriptorProto.{FileDescriptorProto}
use Rattle.prost_reflect_tables.specs.CatalogRows.{CatalogRows, catalog_row}
use Rattle.prost_reflect_tables.specs.Rows.{TableRows}
use Rattle.prost_reflect_tables.specs.Schema.{rows_of}
use Rattle.prost_reflect_pool.specs.Pools.{contents_of}
use Rattle.prost_reflect_pool.specs.declared.pool.LinkedPool.{LinkedPool}

-- The rows of the pool's message types and enums.
abbrev pub pool_rows : Rc LinkedPool Global → TableRows
pool_rows pool = rows_of pool.value.tables

-- What each definition of the pool encloses, its services, and places in the order of names.
abbrev pub pool_catalog : Rc LinkedPool Global → CatalogRows
pool_catalog pool = catalog_row pool.value.catalog

-- The records of the pool's files, in the order in which they were added.
abbrev pub files_of : Rc LinkedPool Global → List FileDescriptorProto
files_of pool = shared_files pool.value.files.items

abbrev pub pool_contents : Rc LinkedPool Global → List Content
pool_contents pool = contents_of (files_of pool)
