-- The tables of files and added ones, from those of the files.
use Rattle.std.specs.Prelude.{◌≡◌, false, true, List, ◌++◌}
use Rattle.prost_reflect_types.specs.declared.FileDescriptorProto.{FileDescriptorProto}
use Rattle.prost_reflect_tables.specs.declared.error.PoolError.{PoolError}
use Rattle.prost_reflect_tables.specs.Rows.{TableRows}
use Rattle.prost_reflect_tables.specs.Flat.{flattened}
use Rattle.prost_reflect_tables.specs.Built.{AreTablesOf}
use Rattle.prost_reflect_tables.specs.Checked.{Stands}
use Rattle.prost_reflect_tables.specs.Linked.{is_linked}
use Rattle.prost_reflect_growth.specs.Growth.{added_rows}
use Rattle.prost_reflect_growth.specs.ChecksGrow.{added_fault}
use Rattle.prost_reflect_growth.specs.RowsGrow.{grown_rows}

-- Where the added definitions have no fault, the grown rows are the tables of all files.
abbrev pub TablesGrow : Type 0
TablesGrow =
    (files added : List FileDescriptorProto) (rows : TableRows) → AreTablesOf files rows → is_linked rows ≡ true →
    ((e : PoolError) → added_fault e files added (flattened files) (added_rows files added) ≡ false) →
    AreTablesOf (files ++ added) (grown_rows (flattened files) (added_rows files added) rows)

-- A fault of the added definitions is one of all files.
abbrev pub AddedRefuse : Type 0
AddedRefuse =
    (files added : List FileDescriptorProto) (rows : TableRows) → AreTablesOf files rows → (e : PoolError) →
    added_fault e files added (flattened files) (added_rows files added) ≡ true → Stands e (files ++ added) (flattened (files ++ added))
