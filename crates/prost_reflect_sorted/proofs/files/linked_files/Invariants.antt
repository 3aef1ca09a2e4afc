use Rattle.std.specs.Prelude.{◌≡◌, ◌+◌, ◌++◌}
use Rattle.prost_reflect_sorted.proofs.Common.{map, drop, length, file_names, file_list, flat_rows, file_table_row, each_from}
use Rattle.prost_reflect_base.specs.Below.{files_below, rows_below, catalog_below}
use Rattle.prost_reflect_growth.specs.CatalogGrow.{added_file}
use Rattle.prost_reflect_sorted.proofs.files.linked_files.Given as goal

abbrev pub invariant-loop-place : goal.invariant-loop-place
invariant-loop-place l =
    let table = added_file (file_names (files_below l.base ++ file_list l.files)) (rows_below l.base) (flat_rows l.flat) in
    map file_table_row l.tables ++ each_from table (length (files_below l.base) + l.place) (file_list (drop l.place l.files))
    ≡ (catalog_below l.base).files ++ each_from table (length (files_below l.base)) (file_list l.files)
