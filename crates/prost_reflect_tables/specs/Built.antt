-- The tables of files.
use Rattle.std.specs.Prelude.{◌≡◌, List}
use Rattle.prost_reflect_types.specs.declared.FileDescriptorProto.{FileDescriptorProto}
use Rattle.prost_reflect_tables.specs.Rows.{TableRows}
use Rattle.prost_reflect_tables.specs.Flat.{flattened}
use Rattle.prost_reflect_tables.specs.Checked.{Checked}
use Rattle.prost_reflect_tables.specs.Linking.{linked_rows}

-- The files pass all checks, and the rows are what they link to.
abbrev pub AreTablesOf : List FileDescriptorProto → TableRows → Type 0
AreTablesOf files rows = Checked files (flattened files) × (rows ≡ linked_rows (flattened files))
