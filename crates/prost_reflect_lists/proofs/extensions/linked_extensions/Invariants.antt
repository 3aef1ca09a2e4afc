use Rattle.std.specs.Prelude.{◌≡◌, ◌++◌}
use Rattle.prost_reflect_lists.proofs.Common.{map, drop, extension_table_row}
use Rattle.prost_reflect_base.specs.Below.{rows_below, tables_below, catalog_below}
use Rattle.prost_reflect_growth.specs.ExtensionsGrow.{grown_extension}
use Rattle.prost_reflect_lists.specs.ExtendedRows.{extended_row, placed}
use Rattle.prost_reflect_tables.specs.Schema.{rows_of}
use Rattle.prost_reflect_lists.proofs.extensions.linked_extensions.Given as goal

abbrev pub invariant-loop-extension : goal.invariant-loop-extension
invariant-loop-extension g l =
    map extension_table_row l.extensions ++ map (placed (rows_of l.tables)) (map extended_row (drop l.extension-index l.added))
    ≡ map (grown_extension (rows_below l.base) g.new (tables_below l.base)) (catalog_below l.base).extensions ++ map (placed (rows_of l.tables)) (map extended_row l.added)

abbrev pub ghost-old_extensions : goal.ghost-old_extensions
ghost-old_extensions g a = g.new
