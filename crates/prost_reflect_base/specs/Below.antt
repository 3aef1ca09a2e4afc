-- What stands in the pool to which files are added.
use Rattle.std.specs.Prelude.{List}
use Rattle.prost_reflect_types.specs.declared.FileDescriptorProto.{FileDescriptorProto}
use Rattle.prost_reflect_tables.specs.Flat.{FlatRows, flattened}
use Rattle.prost_reflect_tables.specs.CatalogRows.{CatalogRows}
use Rattle.prost_reflect_tables.specs.Rows.{TableRows}
use Rattle.prost_reflect_pool.specs.Pools.{files_of, pool_catalog, pool_rows}
use Rattle.prost_reflect_base.specs.declared.base.Base.{Base}

-- The records of the pool's files, in the order in which they were added.
abbrev pub files_below : Base → List FileDescriptorProto
files_below base = files_of base.pool.now

-- Their definitions in flat lists.
abbrev pub rows_below : Base → FlatRows
rows_below base = flattened (files_below base)

-- What they are linked to.
abbrev pub tables_below : Base → TableRows
tables_below base = pool_rows base.pool.now

abbrev pub catalog_below : Base → CatalogRows
catalog_below base = pool_catalog base.pool.now
